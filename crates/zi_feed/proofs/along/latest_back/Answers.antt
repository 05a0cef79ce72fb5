use Rattle.std.proofs.Common.{◌≡◌, ◌-◌, ℕ, Bool, true, false, cond, List, ◌∷◌, map, reverse, Bor, sym, ap, ◌∙◌, arith}
use Rattle.std.specs.Ordering.{nat_cmp}
use Rattle.std.specs.Cmp.Lexicographic.{slice_cmp}
use Rattle.std.specs.BTreeSet as tree
use Rattle.std.proofs.lemmas.Map.Text.{is_eq-slice_cmp}
use Rattle.std.proofs.lemmas.Bool.{not-false, not-true}
use Rattle.zi_parts.specs.declared.types.Command.{Command}
use Rattle.zi_reading.specs.Words.{latest}
use Rattle.zi_feed.specs.Impls.{are_alike}
use Rattle.zi_feed.proofs.LatestLaws.{rest, is_named_in, rest_back, kept_more, named_more, latest_new, latest_old}
use Rattle.zi_feed.proofs.along.latest_back.Goals as goal

pub loop-left-preserved-in-Continue-branch-2 : goal.loop-left-preserved-in-Continue-branch-2
loop-left-preserved-in-Continue-branch-2 c =
    let cs = c.args.commands.now in
    let x = c.index-commands-left.result in
    let key = c.as_str.result in
    let named : key.now ≡ x.now.name = c.as_str.ensures ∙ ap (λ (k : Command). k.name) c.deref.ensures in
    let later = rest cs c.loop-left.left in
    let back : rest cs (c.loop-left.left - 1) ≡ x.now ∷ later =
    rest_back cs (c.loop-left.left - 1) c.loop-left.left x (omega arith) (omega arith) c.index-commands-left.is in
    let absent = not-true _ (sym (sym c.if-branch.true ∙ c.in_ok-insert.ensures.added)) in
    let unknown : is_named_in later x.now.name ≡ false = ap (is_named_in later) (sym named) ∙ (sym (c.loop-left.invariant.told key) ∙ absent) in
    record {
      within = omega arith;
      told = λ q.
          let had : Bool = tree.contains (λ (v : Bor (List ℕ)) (y : Bor (List ℕ)). slice_cmp nat_cmp v.now y.now) c.loop-left.names q in
          c.in_ok-insert.ensures.updates.0 q
          ∙ (ap (λ b. cond b true had) (is_eq-slice_cmp key.now q.now)
          ∙ (named_more x.now later q.now key.now had named (c.loop-left.invariant.told q) ∙ ap (λ v. is_named_in v q.now) (sym back)));
      latest_kept = ap (λ (k : List (Bor Command)). reverse (map (λ r. r.now) k)) c.in_ok-push.ensures.items
          ∙ (kept_more c.loop-left.kept.items x
          ∙ (latest_new x.now later _ unknown c.loop-left.invariant.latest_kept ∙ ap (latest are_alike) (sym back)));
    }

pub loop-left-preserved : goal.loop-left-preserved
loop-left-preserved c =
    let cs = c.args.commands.now in
    let x = c.index-commands-left.result in
    let key = c.as_str.result in
    let named : key.now ≡ x.now.name = c.as_str.ensures ∙ ap (λ (k : Command). k.name) c.deref.ensures in
    let later = rest cs c.loop-left.left in
    let back : rest cs (c.loop-left.left - 1) ≡ x.now ∷ later =
    rest_back cs (c.loop-left.left - 1) c.loop-left.left x (omega arith) (omega arith) c.index-commands-left.is in
    let present = not-false _ (sym (sym c.if-branch.false ∙ c.in_ok-insert.ensures.added)) in
    let known : is_named_in later x.now.name ≡ true = ap (is_named_in later) (sym named) ∙ (sym (c.loop-left.invariant.told key) ∙ present) in
    record {
      within = omega arith;
      told = λ q.
          let had : Bool = tree.contains (λ (v : Bor (List ℕ)) (y : Bor (List ℕ)). slice_cmp nat_cmp v.now y.now) c.loop-left.names q in
          c.in_ok-insert.ensures.updates.0 q
          ∙ (ap (λ b. cond b true had) (is_eq-slice_cmp key.now q.now)
          ∙ (named_more x.now later q.now key.now had named (c.loop-left.invariant.told q) ∙ ap (λ v. is_named_in v q.now) (sym back)));
      latest_kept = latest_old x.now later _ known c.loop-left.invariant.latest_kept ∙ ap (latest are_alike) (sym back);
    }
