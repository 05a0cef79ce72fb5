-- The words of a chain, put one after another.
use Rattle.std.proofs.Common.{◌≡◌, ℕ, suc, ◌<◌, List, [], ◌∷◌, ◌++◌, length, take, drop, map, refl, sym, ap, ◌∙◌, subst, Result, Ok, Err, append_assoc, drop-cons, get_or}
use Rattle.std.proofs.lemmas.List.{take-append-drop, append-nil, map-append}
use Rattle.zi_parts.specs.declared.types.Word.{Word}
use Rattle.zi_bind.specs.declared.fault.BindFault.{BindFault}
use Rattle.zi_bind.specs.declared.fault.BindFault.TheVariants as bind
use Rattle.zi_bind.specs.Answers.{Answers, Adds}
use Rattle.zi_bind.specs.Expansion.{Values, all_both, each_of, expanded}
use Rattle.zi_plan.specs.declared.chain.Linked.{Linked}
use Rattle.zi_plan.specs.Chain.{Link}
use Rattle.zi_plan.specs.Steps.{link_seen}
use Rattle.zi_plan.specs.Launches.{Said, plain, spoken, spoken_all, args, runner_args, path_text, path_word, chain_words, link_words}
use Rattle.zi_bind.proofs.EachLaws.{all_both_start}

abbrev Lists : Type 0
Lists = Result (List (List ℕ)) BindFault

all_both_assoc : (a b c : Lists) → all_both a (all_both b c) ≡ all_both (all_both a b) c
all_both_assoc (Err e) b c = refl
all_both_assoc (Ok t) (Err e) c = refl
all_both_assoc (Ok t) (Ok u) (Err e) = refl
all_both_assoc (Ok t) (Ok u) (Ok v) = ap Ok (sym (append_assoc t u v))

each_of-append : {X : Type 0} (g : X → Lists) (xs ys : List X) → each_of g (xs ++ ys) ≡ all_both (each_of g xs) (each_of g ys)
each_of-append g [] ys = all_both_start (each_of g ys)
each_of-append g (x ∷ xs) ys = ap (all_both (g x)) (each_of-append g xs ys) ∙ all_both_assoc (g x) (each_of g xs) (each_of g ys)

pub spoken_all-append : (values : Values) (xs ys : List Said) → spoken_all values (xs ++ ys) ≡ all_both (spoken_all values xs) (spoken_all values ys)
spoken_all-append values xs ys = each_of-append (spoken values) xs ys

pub spoken_args : (values : Values) (words : List Word) → each_of (expanded values) words ≡ spoken_all values (args words)
spoken_args values [] = refl
spoken_args values (w ∷ ws) = ap (all_both (expanded values w)) (spoken_args values ws)

-- texts as they stand
pub spoken_plain : (values : Values) (texts : List (List ℕ)) → spoken_all values (map plain texts) ≡ Ok texts
spoken_plain values [] = refl
spoken_plain values (t ∷ ts) = ap (all_both (Ok (t ∷ []))) (spoken_plain values ts)

-- what is added behind what was added
pub adds_more : (e f : Lists) (old mid new : List (List ℕ)) (r : Result Unit BindFault) → Adds e old (Ok tt) mid → Adds f mid r new → Adds (all_both e f) old r new
adds_more e f old mid new (Ok u) (m, h, n) (p, k, q) = (m ++ p, ap (λ x. all_both x f) h ∙ ap (all_both (Ok m)) k, q ∙ ap (λ o. o ++ p) n ∙ append_assoc old m p)
adds_more e f old mid new (Err (bind.Unset t)) (m, h, n) k = ap (λ x. all_both x f) h ∙ ap (all_both (Ok m)) k
adds_more e f old mid new (Err (bind.BadDollar t)) (m, h, n) k = ap (λ x. all_both x f) h ∙ ap (all_both (Ok m)) k
adds_more e f old mid new (Err bind.Memory) h k = tt

-- a refusal is that of all
pub adds_stop : (e f : Lists) (old mid new : List (List ℕ)) (fault : BindFault) → Adds e old (Err fault) mid → Adds (all_both e f) old (Err fault) new
adds_stop e f old mid new (bind.Unset t) h = ap (λ x. all_both x f) h
adds_stop e f old mid new (bind.BadDollar t) h = ap (λ x. all_both x f) h
adds_stop e f old mid new bind.Memory h = tt

-- The words of one command.
module _ (values : Values) (l : Link) where
  link_said : spoken_all values (link_words l)
      ≡ all_both (spoken_all values (runner_args l.command.runner)) (all_both (spoken_all values (path_word l.folder l.command.path)) (spoken_all values (args l.command.words)))
  link_said = spoken_all-append values (runner_args l.command.runner) (path_word l.folder l.command.path ++ args l.command.words)
      ∙ ap (all_both (spoken_all values (runner_args l.command.runner))) (spoken_all-append values (path_word l.folder l.command.path) (args l.command.words))

  pub link_all : (old mid next new : List (List ℕ)) (r : Result Unit BindFault) → Adds (spoken_all values (runner_args l.command.runner)) old (Ok tt) mid → next ≡ mid ++ path_text l.folder l.command.path
      → Adds (spoken_all values (args l.command.words)) next r new → Adds (spoken_all values (link_words l)) old r new
  link_all old mid next new r h e k = subst (λ x. Adds x old r new) (sym link_said) (adds_more _ _ old mid new r h (adds_more _ _ mid next new r (path_text l.folder l.command.path, spoken_plain values (path_text l.folder l.command.path), e) k))

  pub link_stop : (old mid new : List (List ℕ)) (f : BindFault) → Adds (spoken_all values (runner_args l.command.runner)) old (Err f) mid → Adds (spoken_all values (link_words l)) old (Err f) new
  link_stop old mid new f h = subst (λ x. Adds x old (Err f) new) (sym link_said) (adds_stop _ _ old mid new f h)

-- what is added to nothing is answered
pub answers_all : (e : Lists) (out : List (List ℕ)) → Adds e [] (Ok tt) out → Answers e (Ok out)
answers_all e out (m, h, n) = h ∙ ap Ok (sym n)

pub answers_stop : (e : Lists) (f : BindFault) (new : List (List ℕ)) → Adds e [] (Err f) new → Answers e (Err f)
answers_stop e (bind.Unset t) new h = h
answers_stop e (bind.BadDollar t) new h = h
answers_stop e bind.Memory new h = tt

-- the words of a chain behind those of what follows it
pub chain_words-append : (xs ys : List Link) → chain_words (xs ++ ys) ≡ chain_words ys ++ chain_words xs
chain_words-append [] ys = sym (append-nil (chain_words ys))
chain_words-append (x ∷ xs) ys = ap (λ ws. ws ++ link_words x) (chain_words-append xs ys) ∙ append_assoc (chain_words ys) (chain_words xs) (link_words x)

-- The words of the last commands of a chain, and of one more before them.
module _ (values : Values) (links : List Linked) (left k : ℕ) (link : Linked) (old mid new : List (List ℕ)) (next : left ≡ suc k) (within : k < length links) (at : link ≡ get_or links k link) where
  rest : map link_seen (drop k links) ≡ link_seen link ∷ map link_seen (drop left links)
  rest = ap (map link_seen) (drop-cons links k link within ∙ ap (λ l. l ∷ drop (suc k) links) (sym at) ∙ ap (λ n. link ∷ drop n links) (sym next))

  words : spoken_all values (chain_words (map link_seen (drop k links))) ≡ all_both (spoken_all values (chain_words (map link_seen (drop left links)))) (spoken_all values (link_words (link_seen link)))
  words = ap (λ ls. spoken_all values (chain_words ls)) rest ∙ spoken_all-append values (chain_words (map link_seen (drop left links))) (link_words (link_seen link))

  pub chain_more : Adds (spoken_all values (chain_words (map link_seen (drop left links)))) old (Ok tt) mid → Adds (spoken_all values (link_words (link_seen link))) mid (Ok tt) new
      → Adds (spoken_all values (chain_words (map link_seen (drop k links)))) old (Ok tt) new
  chain_more h one = subst (λ e. Adds e old (Ok tt) new) (sym words) (adds_more _ _ old mid new (Ok tt) h one)

  all : spoken_all values (chain_words (map link_seen links)) ≡ all_both (spoken_all values (chain_words (map link_seen (drop k links)))) (spoken_all values (chain_words (map link_seen (take k links))))
  all = ap (λ ls. spoken_all values (chain_words (map link_seen ls))) (sym (take-append-drop k links))
      ∙ ap (λ ls. spoken_all values (chain_words ls)) (map-append link_seen (take k links) (drop k links))
      ∙ ap (spoken_all values) (chain_words-append (map link_seen (take k links)) (map link_seen (drop k links)))
      ∙ spoken_all-append values (chain_words (map link_seen (drop k links))) (chain_words (map link_seen (take k links)))

  pub chain_stop : (f : BindFault) → Adds (spoken_all values (chain_words (map link_seen (drop left links)))) old (Ok tt) mid → Adds (spoken_all values (link_words (link_seen link))) mid (Err f) new
      → Adds (spoken_all values (chain_words (map link_seen links))) old (Err f) new
  chain_stop f h one =
      subst (λ e. Adds e old (Err f) new) (sym all) (adds_stop _ (spoken_all values (chain_words (map link_seen (take k links)))) old new new f (subst (λ e. Adds e old (Err f) new) (sym words) (adds_more _ _ old mid new (Err f) h one)))
