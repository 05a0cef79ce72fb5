-- Calls that only read, one after another.
use Rattle.std.proofs.Common.{◌≡◌, ℕ, ◌≤◌, ◌<◌, ◌-◌, ◌^◌, Bool, true, false, ◌&&◌, List, [], ◌∷◌, ◌++◌, Some, refl, sym, ◌∙◌, ap, subst, append_assoc, arith, inl, inr}
use Rattle.std.specs.List.{list_all}
use Rattle.std.proofs.lemmas.List.{append-nil}
use Rattle.zi_tree.specs.Dir.{Dir}
use Rattle.zi_tree.specs.declared.tree.TreeNode.{TreeNode}
use Rattle.zi_shelf.specs.Names.{Name}
use Rattle.zi_shelf.specs.Shelved.{Shelved, Reply, Did, Exists, Failed, Memory}
use Rattle.zi_text.specs.Count.{Rose}
use Rattle.zi_shelf.specs.Told.{Told, recorded}
use Rattle.zi_shelf.specs.Shelving.{Shelving, Stays, Reads, IsSure}
use Rattle.zi_shelf.specs.Reading.{Question, question_call}
use Rattle.zi_shelf.specs.declared.call.ShelfCall.{ShelfCall}
use Rattle.zi_shelf.specs.declared.call.CallKind.{CallKind}
use Rattle.zi_store.specs.Keeping.{Grows, Keeps}
use Rattle.zi_store.specs.Standing.{Stands, StandsNode}
use Rattle.zi_store.specs.Entries.{Fits}
use Rattle.zi_text.proofs.ListLaws.{some_of}

all_append : {X : Type 0} (p : X → Bool) (xs ys : List X) → list_all p xs ≡ true → list_all p ys ≡ true → list_all p (xs ++ ys) ≡ true
all_append p [] ys h k = k
all_append p (x ∷ xs) ys h k = by_test (p x) refl h (all_append p xs ys)
  where
    by_test : (b : Bool) → p x ≡ b → (b && list_all p xs) ≡ true → (list_all p xs ≡ true → list_all p ys ≡ true → list_all p (xs ++ ys) ≡ true) → (p x && list_all p (xs ++ ys)) ≡ true
    by_test true e g rest = rw e (rest g k)
    by_test false e g rest = absurd (cc g)

-- what no call changes, call after call
stays_none : (seen : Shelving) → Stays seen seen
stays_none seen = record { honest = λ x. x; sure = λ x. x; in_memory = λ x. x; root = refl; plan = refl }

stays_then : {a b c : Shelving} → Stays a b → Stays b c → Stays a c
stays_then p q = record {
  honest = λ x. q.honest (p.honest x);
  sure = λ x. q.sure (p.sure x);
  in_memory = λ x. q.in_memory (p.in_memory x);
  root = q.root ∙ p.root;
  plan = q.plan ∙ p.plan;
}

-- no call
pub keeps_none : (kinds : CallKind → Bool) (seen : Shelving) → Keeps kinds seen seen
keeps_none kinds seen = record {
  holds = λ s keeps e. (s, e, refl, record { more = []; is = sym (append-nil s.calls); of_kind = refl });
  later = omega arith;
  stays = stays_none seen;
}

-- some calls, and then others
pub keeps_then : {kinds : CallKind → Bool} {before between after : Shelving} → Keeps kinds before between → Keeps kinds between after → Keeps kinds before after
keeps_then {kinds = kinds} a b = record {
  holds = λ s keeps e.
      let m = a.holds s keeps e in
      let n = b.holds m.0 (a.stays.honest keeps) m.1 in (
        n.0,
        n.1,
        n.2 ∙ m.2,
        record {
          more = m.3.more ++ n.3.more;
          is = n.3.is ∙ ap (λ l. l ++ n.3.more) m.3.is ∙ append_assoc s.calls m.3.more n.3.more;
          of_kind = all_append (λ (c : ShelfCall). kinds c.kind) m.3.more n.3.more m.3.of_kind n.3.of_kind;
        },
      );
  later = omega (arith, a.later, b.later);
  stays = stays_then a.stays b.stays;
}

and_true : (b : Bool) → b ≡ true → (b && true) ≡ true
and_true b e = rw e refl

grown : (kinds : CallKind → Bool) (old new : List ShelfCall) (c : ShelfCall) (reply : Reply) → kinds c.kind ≡ true → new ≡ recorded old c reply → Grows kinds old new
grown kinds old new c Memory h e = record { more = []; is = e ∙ sym (append-nil old); of_kind = refl }
grown kinds old new c Did h e = record { more = c ∷ []; is = e; of_kind = and_true (kinds c.kind) h }
grown kinds old new c Exists h e = record { more = c ∷ []; is = e; of_kind = and_true (kinds c.kind) h }
grown kinds old new c Failed h e = record { more = c ∷ []; is = e; of_kind = and_true (kinds c.kind) h }

-- one call that reads
pub keeps_call : (kinds : CallKind → Bool) {before after : Shelving} (question : Question) (reply : Reply) (answer : Shelved Dir → Type 0)
    → Reads before question reply answer after → kinds (question_call question).kind ≡ true → Keeps kinds before after
keeps_call kinds question reply answer reads kind = record {
  holds = λ s keeps e. let r = reads.leads s keeps e in (r.0, r.1, r.2, grown kinds s.calls r.0.calls (question_call question) reply kind r.3);
  later = reads.cause.later;
  stays = reads.stays;
}

pub answers_call : {before after : Shelving} (question : Question) (reply : Reply) (answer : Shelved Dir → Type 0) → Reads before question reply answer after → (s : Told) → before.honest → before.told ≡ Some s → answer s.shelf
answers_call question reply answer reads s keeps e = (reads.leads s keeps e).4

-- where it doesn't fail the count stays
pub count_call : {before after : Shelving} (question : Question) (reply : Reply) (answer : Shelved Dir → Type 0) → Reads before question reply answer after → (reply ≡ Failed → ⊥) → after.faults ≡ before.faults
count_call question Did answer reads h = reads.cause.did refl
count_call question Exists answer reads h = reads.cause.exists refl
count_call question Memory answer reads h = reads.cause.memory refl
count_call question Failed answer reads h = absurd (h refl)

not_risen : (f0 f1 : ℕ) → f1 ≡ f0 → f1 < 2 ^ 64 - 1 → Rose f0 f1 → ⊥
not_risen f0 f1 e h (inl r) = absurd (omega (arith, e, r))
not_risen f0 f1 e h (inr r) = absurd (omega (arith, h, r))

-- a call that fits doesn't fail on a sure shelf
pub sure_call : {before after : Shelving} (question : Question) (reply : Reply) (answer : Shelved Dir → Type 0) → before.sure → IsSure before → IsSure after → Reads before question reply answer after → Fits before.told question → reply ≡ Failed → ⊥
sure_call {before = before} {after = after} question reply answer sure was is reads fits e =
    let s = some_of before.told was.tells in
    not_risen before.faults after.faults ((reads.no_rise sure).no_rise s.0 s.1 (fits s.0 s.1)) is.below_end (reads.cause.failed e)

-- a count that rose in a later call rose
pub rose_later : (f0 f1 f2 : ℕ) → f0 ≤ f1 → Rose f1 f2 → Rose f0 f2
rose_later f0 f1 f2 h (inl r) = inl (omega (arith, h, r))
rose_later f0 f1 f2 h (inr r) = inr r

pub rose_before : (f0 f1 f2 : ℕ) → f1 ≤ f2 → Rose f0 f1 → Rose f0 f2
rose_before f0 f1 f2 h (inl r) = inl (omega (arith, h, r))
rose_before f0 f1 f2 h (inr r) = inr (omega (arith, h, r))

-- what stood there stands there still
pub stands_later : {kinds : CallKind → Bool} {before after : Shelving} {top : Name} {path : List Name} {d : Dir}
    → Keeps kinds before after → Stands before.honest before.told top path d → Stands after.honest after.told top path d
stands_later {top = top} a st =
    let m = a.holds st.state st.keeps st.tells in record {
      keeps = a.stays.honest st.keeps;
      state = m.0;
      tells = m.1;
      entry = st.entry;
      is_top = subst (λ (x : Shelved Dir). x.tops top ≡ Some st.entry) (sym m.2) st.is_top;
      is_there = st.is_there;
    }

pub node_later : {kinds : CallKind → Bool} {before after : Shelving} {top : Name} {path : List Name} {x : TreeNode}
    → Keeps kinds before after → StandsNode before.honest before.told top path x → StandsNode after.honest after.told top path x
node_later {top = top} a st =
    let m = a.holds st.state st.keeps st.tells in record {
      keeps = a.stays.honest st.keeps;
      state = m.0;
      tells = m.1;
      entry = st.entry;
      is_top = subst (λ (y : Shelved Dir). y.tops top ≡ Some st.entry) (sym m.2) st.is_top;
      is_there = st.is_there;
    }
