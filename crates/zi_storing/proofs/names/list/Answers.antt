use Rattle.std.proofs.Common.{refl, inl, inr}
use Rattle.zi_world.proofs.CallLemmas.{failed, not_failed, answered}
use Rattle.zi_storing.proofs.names.list.Goals as goal

pub returns-in-Ok : goal.returns-in-Ok
returns-in-Ok g c = λ feeds. record {
  feeds = refl;
  stores = c.in-Ok.ensures.keeps;
  answer = inr (c.in-Ok.ensures.calm (answered c.in-Ok.names), (c.in-Ok.names, c.in-Ok.ensures.names, (rw c.as_slice.ensures at c.put_names.ensures)));
}

pub returns-in-Err-Failed : goal.returns-in-Err-Failed
returns-in-Err-Failed g c = λ feeds. record {
  feeds = refl;
  stores = c.in-Err-Failed.ensures.keeps;
  answer = inl ((c.new.ensures, c.in-Err-Failed.ensures.cause (failed c.in-Err-Failed.field-0 c.in-Err-Failed.field-0-is)), refl);
}

pub returns-in-Err-Memory : goal.returns-in-Err-Memory
returns-in-Err-Memory g c = λ feeds. record {
  feeds = refl;
  stores = c.in-Err-Memory.ensures.keeps;
  answer = inl (c.in-Err-Memory.ensures.calm (not_failed c.in-Err-Memory.field-0 c.in-Err-Memory.field-0-is), refl);
}
