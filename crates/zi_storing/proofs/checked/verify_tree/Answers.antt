use Rattle.std.proofs.Common.{inl, inr, refl, ◌∷◌, map}
use Rattle.zi_store.specs.Keeping.{Keeps, is_reading}
use Rattle.zi_store.proofs.KeepingLemmas.{keeps_none}
use Rattle.zi_store.proofs.StoresLemmas.{each_same, calm_same}
use Rattle.zi_world.proofs.CallLemmas.{failed, not_failed, answered}
use Rattle.zi_storing.proofs.checked.verify_tree.Goals as goal

pub returns-in_default : goal.returns-in_default
returns-in_default g c = λ feeds. record {
  feeds = refl;
  stores = each_same (Keeps is_reading) (keeps_none is_reading) (g.K.Shelf.seen c.args.shelf.now ∷ map g.R.Shelf.seen c.args.others.now);
  answer = inl (calm_same (g.K.Shelf.seen c.args.shelf.now ∷ map g.R.Shelf.seen c.args.others.now), refl);
}

pub returns-in-Ok-first_check : goal.returns-in-Ok-first_check
returns-in-Ok-first_check g c = λ feeds. record {
  feeds = refl;
  stores = c.in-Ok-first_check.ensures.keeps;
  answer = inr (c.in-Ok-first_check.ensures.calm (answered c.in-Ok-first_check.c), (c.in-Ok-first_check.c, c.in-Ok-first_check.ensures.checks, c.tell_check.ensures));
}

pub returns-in-Err-Failed : goal.returns-in-Err-Failed
returns-in-Err-Failed g c = λ feeds. record {
  feeds = refl;
  stores = c.in-Err-Failed.ensures.keeps;
  answer = inl ((c.in-Ok.ensures, c.in-Err-Failed.ensures.cause (failed c.in-Err-Failed.field-0 c.in-Err-Failed.field-0-is)), refl);
}

pub returns-in-Err-Memory : goal.returns-in-Err-Memory
returns-in-Err-Memory g c = λ feeds. record {
  feeds = refl;
  stores = c.in-Err-Memory.ensures.keeps;
  answer = inl (c.in-Err-Memory.ensures.calm (not_failed c.in-Err-Memory.field-0 c.in-Err-Memory.field-0-is), refl);
}
