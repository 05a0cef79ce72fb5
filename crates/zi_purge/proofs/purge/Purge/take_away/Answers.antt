use Rattle.std.proofs.Common.{Ok, ◌≡◌, ◌∷◌, [], ◌++◌, refl, sym, ◌∙◌, ap, map}
use Rattle.zi_digest.specs.Name.{spelling}
use Rattle.zi_shelf.specs.Shelved.{Did, Exists, Failed, Memory}
use Rattle.zi_shelf.specs.Told.{moved_reply, fault_reply}
use Rattle.zi_purge.specs.Machine.{Sealing, Ended, Crowded, Fault}
use Rattle.zi_purge.specs.Phases.{phase_of, has_name}
use Rattle.zi_purge.proofs.StepLemmas.{renamed, waits, noted, on_next, tries_out, as_reply, at_index, at_name}
use Rattle.zi_purge.proofs.purge.Purge.take_away.Goals as goal

pub returns-in_default-clause-steps : goal.returns-in_default-clause-steps
returns-in_default-clause-steps g c = let x = c.args.self.now in waits x _ _ c.requires (x.inside (ap has_name c.requires)) refl

pub returns-then-is_err-clause-steps : goal.returns-then-is_err-clause-steps
returns-then-is_err-clause-steps g c =
    let x = c.args.self.now in
    let same : c.from_vec.result ≡ x.gone = c.from_vec.ensures ∙ c.room_for.ensures.same ∙ c.into_vec-gone.ensures ∙ c.replace.ensures.value in
    waits x _ _ c.requires (x.inside (ap has_name c.requires)) (ap (map spelling) same)

pub returns-in-Ok-Renamed-clause-steps : goal.returns-in-Ok-Renamed-clause-steps
returns-in-Ok-Renamed-clause-steps g c =
    let x = c.args.self.now in
    let name = c.index-in-Ok-Renamed.result.now in
    let now_is = c.from_vec-in-Ok-Renamed.ensures ∙ c.note.ensures ∙ ap (λ l. l ++ name ∷ []) (c.room_for.ensures.same ∙ c.into_vec-gone.ensures ∙ c.replace.ensures.value) in
    renamed x _ _ Did _ _ (Sealing x.place x.number) _ _ c.requires (at_index x.texts.items x.place _ _ (x.inside (ap has_name c.requires)) (sym c.index.ensures ∙ sym c.as_str.ensures)) (c.as_str-2.ensures ∙ c.in-Ok.ensures) (as_reply _ _ _ _ _ (ap (λ m. moved_reply (Ok m)) c.in-Ok-Renamed.field-0-is) c.in-Ok-Renamed.ensures.does) refl
    (noted x.texts.items x.names.items x.gone _ x.place x.number name x.spelled (at_name x.names.items x.texts.items x.place _ _ x.spelled (x.inside (ap has_name c.requires)) (sym c.index-in-Ok-Renamed.ensures)) now_is) refl

pub returns-then-self-lt-TRIES-clause-steps : goal.returns-then-self-lt-TRIES-clause-steps
returns-then-self-lt-TRIES-clause-steps g c =
    let x = c.args.self.now in
    let same : c.from_vec-in-Ok-Exists.result ≡ x.gone = c.from_vec-in-Ok-Exists.ensures ∙ c.room_for.ensures.same ∙ c.into_vec-gone.ensures ∙ c.replace.ensures.value in
    on_next x _ _ _ _ _ c.requires (at_index x.texts.items x.place _ _ (x.inside (ap has_name c.requires)) (sym c.index.ensures ∙ sym c.as_str.ensures)) (c.as_str-2.ensures ∙ c.in-Ok.ensures)
    (as_reply _ _ _ _ _ (ap (λ m. moved_reply (Ok m)) c.in-Ok-Exists.field-0-is) c.in-Ok-Exists.ensures.does) c.if-self-lt-TRIES.true (ap (map spelling) same)

pub returns-in-Ok-Exists-clause-steps : goal.returns-in-Ok-Exists-clause-steps
returns-in-Ok-Exists-clause-steps g c =
    let x = c.args.self.now in
    let same : c.from_vec-in-Ok-Exists.result ≡ x.gone = c.from_vec-in-Ok-Exists.ensures ∙ c.room_for.ensures.same ∙ c.into_vec-gone.ensures ∙ c.replace.ensures.value in
    renamed x _ _ Exists _ _ (Ended Crowded) _ _ c.requires (at_index x.texts.items x.place _ _ (x.inside (ap has_name c.requires)) (sym c.index.ensures ∙ sym c.as_str.ensures)) (c.as_str-2.ensures ∙ c.in-Ok.ensures) (as_reply _ _ _ _ _ (ap (λ m. moved_reply (Ok m)) c.in-Ok-Exists.field-0-is) c.in-Ok-Exists.ensures.does)
    (tries_out x.place x.number c.if-self-lt-TRIES.false) (ap (map spelling) same) refl

pub returns-in-Err-Memory-clause-steps : goal.returns-in-Err-Memory-clause-steps
returns-in-Err-Memory-clause-steps g c =
    let x = c.args.self.now in
    let same : c.from_vec-in-Err-Memory.result ≡ x.gone = c.from_vec-in-Err-Memory.ensures ∙ c.room_for.ensures.same ∙ c.into_vec-gone.ensures ∙ c.replace.ensures.value in
    renamed x _ _ Memory _ _ _ _ _ c.requires (at_index x.texts.items x.place _ _ (x.inside (ap has_name c.requires)) (sym c.index.ensures ∙ sym c.as_str.ensures)) (c.as_str-2.ensures ∙ c.in-Ok.ensures) (as_reply _ _ _ _ _ (ap fault_reply c.in-Err-Memory.field-0-is) c.in-Err-Memory.ensures.does)
    (ap (λ p. phase_of p x.place x.number) c.requires) (ap (map spelling) same) refl

pub returns-clause-steps : goal.returns-clause-steps
returns-clause-steps g c =
    let x = c.args.self.now in
    let same : c.from_vec-in-Err-Failed.result ≡ x.gone = c.from_vec-in-Err-Failed.ensures ∙ c.room_for.ensures.same ∙ c.into_vec-gone.ensures ∙ c.replace.ensures.value in
    renamed x _ _ Failed _ _ (Ended Fault) _ _ c.requires (at_index x.texts.items x.place _ _ (x.inside (ap has_name c.requires)) (sym c.index.ensures ∙ sym c.as_str.ensures)) (c.as_str-2.ensures ∙ c.in-Ok.ensures) (as_reply _ _ _ _ _ (ap fault_reply c.in-Err-Failed.field-0-is) c.in-Err-Failed.ensures.does)
    refl (ap (map spelling) same) refl
