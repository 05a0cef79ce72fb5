-- What was written and whose calls failed, of `show`; and it never comes to Usage.
use Rattle.std.proofs.Common.{◌≡◌, ℕ, inl, inr, List, []}
use Rattle.zi_outcome.specs.declared.outcome.Outcome.{Outcome}
use Rattle.zi_outcome.specs.declared.outcome.Outcome.TheVariants.{Usage}
use Rattle.zi_world.specs.World.{World, all_stores}
use Rattle.zi_storing.proofs.RightLemmas.{prints_right}
use Rattle.zi_showing.specs.Showing.{ReadsNone, ShowsRead, ShowsSelections}
use Rattle.zi_app.proofs.EndLemmas.{EndsIn, feeds_still, stores_still, untouched_calm, unwritten, prints, stopped}
use Rattle.zi_app.proofs.LaunchingEnds.{gets_not}

unread_ends : (file : List ℕ) (o : Outcome) (before after : World) → ReadsNone file before after o → EndsIn o before after
unread_ends file o before after r =
    let g = gets_not file o before.feeds after.feeds r.why in
    (g.0, stores_still o (all_stores before) (all_stores after) g.1 (untouched_calm (all_stores before) (all_stores after) r.stores), unwritten o before.out after.out g.4 r.nothing, g.2, g.3)

read_ends : (file : List ℕ) (o : Outcome) (before after : World) → ShowsRead file before after o → EndsIn o before after
read_ends file o before after r = elim r.answer [
  | inl f ↦ (let t = stopped [] o (all_stores before) (all_stores after) f.0 in
      (feeds_still o t.1 r.got.1.asked.calm, t.0, unwritten o before.out after.out t.4 f.1, t.2, t.3))
  | inr p ↦ (let e = prints p.text before.out after.out o p.printed in
      (feeds_still o e.1 r.got.1.asked.calm, stores_still o (all_stores before) (all_stores after) e.2 p.calm, e.0, e.3, e.4))
]

pub show_ends : (file : List ℕ) (o : Outcome) (before after : World) → ShowsSelections file before after o → EndsIn o before after
show_ends file o before after d = elim d.comes [ inl r ↦ unread_ends file o before after r | inr r ↦ read_ends file o before after r ]

pub show_right : (file : List ℕ) (before after : World) (index : ℕ) → ShowsSelections file before after (Usage index) → ⊥
show_right file before after index d = elim d.comes [
  | inl r ↦ r.why
  | inr r ↦ elim r.answer [ inl f ↦ f.0 | inr p ↦ prints_right p.text before.out after.out index p.printed ]
]
