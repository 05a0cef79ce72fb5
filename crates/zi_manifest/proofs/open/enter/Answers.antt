use Rattle.std.proofs.Common.{◌≡◌, ◌∙◌, ap, sym, reverse, Some, ℕ, List, option_map, bytes_eq}
use Rattle.std.specs.List.{list_any}
use Rattle.zi_manifest.specs.Reading.{back, rises, fresh}
use Rattle.zi_manifest.specs.Sketch.{joined}
use Rattle.zi_manifest.specs.declared.open.Open.{Open}
use Rattle.zi_manifest.proofs.OpenLemmas.{found, not_behind, not_free, entered}
use Rattle.zi_manifest.proofs.open.enter.Goals as goal
use Rattle.zi_manifest.proofs.open.enter.Goals.{then-not-is_above-via-then-not-is_above, then-not-is_above-via-else-not-is_above+then-has_name}

pub has_name-requires : goal.has_name-requires
has_name-requires c =
    let ds = reverse c.back.new.folders.items in
    let h : back c.args.parent.now (reverse c.args.folders.now.items) ≡ Some (c.in-Some.here, ds) = c.back.ensures ∙ ap (option_map (λ (x : Open). (x, ds))) c.in-Some.is in
    ap rises c.as_slice.ensures ∙ (found c.args.parent.now (reverse c.args.folders.now.items) ds c.in-Some.here c.requires h).1

pub returns-then-not-is_above : goal.returns-then-not-is_above
returns-then-not-is_above c =
    let ds = reverse c.back.new.folders.items in
    let h : back c.args.parent.now (reverse c.args.folders.now.items) ≡ Some (c.in-Some.here, ds) = c.back.ensures ∙ ap (option_map (λ (x : Open). (x, ds))) c.in-Some.is in
    elim c.then-not-is_above.branch [
      | then-not-is_above-via-then-not-is_above w ↦ not_behind c.args.parent.now c.args.name.now (reverse c.args.folders.now.items) ds c.in-Some.here h (sym c.is_above.ensures ∙ w.if-not-is_above.true)
      | then-not-is_above-via-else-not-is_above+then-has_name w ↦ not_free c.args.parent.now c.args.name.now (reverse c.args.folders.now.items) ds c.in-Some.here h (ap (list_any (λ (m : List ℕ). bytes_eq m c.args.name.now)) (sym w.as_slice.ensures) ∙ sym w.has_name.ensures ∙ w.if-has_name.true)
    ]

pub returns : goal.returns
returns c =
    let ds = reverse c.back.new.folders.items in
    let h : back c.args.parent.now (reverse c.args.folders.now.items) ≡ Some (c.in-Some.here, ds) = c.back.ensures ∙ ap (option_map (λ (x : Open). (x, ds))) c.in-Some.is in
    entered c.args.parent.now c.args.name.now c.in_ok-path.path (reverse c.args.folders.now.items) c.back.new.folders.items c.push.new.folders.items c.push-2.new.folders.items c.in-Some.here _ c.opened.result h c.requires
    (sym c.is_above.ensures ∙ c.if-not-is_above.false)
    (ap (list_any (λ (m : List ℕ). bytes_eq m c.args.name.now)) (sym c.as_slice.ensures) ∙ sym c.has_name.ensures ∙ c.if-has_name.false)
    c.in_ok-push.ensures
    (ap (λ (t : List ℕ). let z : Open = record { path = c.in-Some.here.path; leaves = c.in-Some.here.leaves; folder = Some t } in z) c.in_ok-from_str.ensures)
    c.in_ok-push-2.ensures
    (c.opened.ensures ∙ ap fresh c.in_ok-copy.ensures)
    (c.in_ok-path.ensures ∙ ap (λ (t : List ℕ). joined t c.args.name.now) c.as_str.ensures)
