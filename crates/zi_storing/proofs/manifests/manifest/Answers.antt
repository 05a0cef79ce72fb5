use Rattle.std.proofs.Common.{inl, inr, refl, subst, ◌++◌, ◌∷◌, map}
use Rattle.zi_digest.specs.Name.{name_of}
use Rattle.zi_outcome.specs.Writing.{Prints}
use Rattle.zi_world.proofs.CallLemmas.{failed, not_failed, answered}
use Rattle.zi_storing.specs.StoreList.{name_line}
use Rattle.zi_storing.proofs.StoreLemmas.{first_at}
use Rattle.zi_storing.proofs.manifests.manifest.Goals as goal

pub returns-in-Ok-Read : goal.returns-in-Ok-Read
returns-in-Ok-Read g c = λ feeds. record {
  feeds = refl;
  stores = c.in-Ok-Read.ensures.keeps;
  answer = inr (
    c.in-Ok-Read.ensures.calm (answered c.in-Ok-Read.field-0),
    inr (
      c.in-Ok-Read.text,
      first_at c.args.algorithm _ _ (g.K.Shelf.seen c.args.shelf.now ∷ map g.R.Shelf.seen c.args.others.now) _ _ c.in-Ok-Read.field-0-is c.as_str.ensures c.in-Ok-Read.ensures.reads,
      subst (λ t. Prints (t ++ name_line (name_of c.args.algorithm t)) (g.O.Sink.seen c.args.out.now) (g.O.Sink.seen c.put_digested.new.out) c.put_digested.result) c.into_vec.ensures c.put_digested.ensures,
    ),
  );
}

pub returns-in-Ok-Missing : goal.returns-in-Ok-Missing
returns-in-Ok-Missing g c = λ feeds. record {
  feeds = refl;
  stores = c.in-Ok-Missing.ensures.keeps;
  answer = inr (
    c.in-Ok-Missing.ensures.calm (answered c.in-Ok-Missing.field-0),
    inl (refl, first_at c.args.algorithm _ _ (g.K.Shelf.seen c.args.shelf.now ∷ map g.R.Shelf.seen c.args.others.now) _ _ c.in-Ok-Missing.field-0-is c.as_str.ensures c.in-Ok-Missing.ensures.reads, refl),
  );
}

pub returns-in-Ok-BadName : goal.returns-in-Ok-BadName
returns-in-Ok-BadName g c = λ feeds. record {
  feeds = refl;
  stores = c.in-Ok-BadName.ensures.keeps;
  answer = inr (
    c.in-Ok-BadName.ensures.calm (answered c.in-Ok-BadName.field-0),
    inl (first_at c.args.algorithm _ _ (g.K.Shelf.seen c.args.shelf.now ∷ map g.R.Shelf.seen c.args.others.now) _ _ c.in-Ok-BadName.field-0-is c.as_str.ensures c.in-Ok-BadName.ensures.reads, refl),
  );
}

pub returns-in-Ok-TooLarge : goal.returns-in-Ok-TooLarge
returns-in-Ok-TooLarge g c = λ feeds. record {
  feeds = refl;
  stores = c.in-Ok-TooLarge.ensures.keeps;
  answer = inr (
    c.in-Ok-TooLarge.ensures.calm (answered c.in-Ok-TooLarge.field-0),
    inl (first_at c.args.algorithm _ _ (g.K.Shelf.seen c.args.shelf.now ∷ map g.R.Shelf.seen c.args.others.now) _ _ c.in-Ok-TooLarge.field-0-is c.as_str.ensures c.in-Ok-TooLarge.ensures.reads, refl),
  );
}

pub returns-in-Err-Failed : goal.returns-in-Err-Failed
returns-in-Err-Failed g c = λ feeds. record {
  feeds = refl;
  stores = c.in-Err-Failed.ensures.keeps;
  answer = inl ((refl, c.in-Err-Failed.ensures.cause (failed c.in-Err-Failed.field-0 c.in-Err-Failed.field-0-is)), refl);
}

pub returns-in-Err-Memory : goal.returns-in-Err-Memory
returns-in-Err-Memory g c = λ feeds. record {
  feeds = refl;
  stores = c.in-Err-Memory.ensures.keeps;
  answer = inl (c.in-Err-Memory.ensures.calm (not_failed c.in-Err-Memory.field-0 c.in-Err-Memory.field-0-is), refl);
}
