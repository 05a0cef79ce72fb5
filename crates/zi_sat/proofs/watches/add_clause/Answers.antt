use Rattle.std.proofs.Common.{rules, ◌≡◌, ◌-◌, length, refl, arith, None, false, get_or}
use Rattle.zi_formula.specs.declared.formula.Constraint.TheVariants.{Clause}
use Rattle.zi_sat.proofs.AddLaws.{last_two, last_are, pair_adds, all_fit_more}
use Rattle.zi_sat.proofs.watches.add_clause.Goals as goal

pub returns-then-len-lt2-clause-adds : goal.returns-then-len-lt2-clause-adds
returns-then-len-lt2-clause-adds c =
    record {
      pair = None;
      pairs = c.in_ok-push_none.ensures.items;
      held = omega (arith, c.if-len-lt2.true);
      last = tt;
      grows = λ q m h. h;
      fits = λ all e f. all_fit_more c.args.w.now.rows all (Clause c.args.lits.now) f;
    }

pub returns-clause-adds : goal.returns-clause-adds
returns-clause-adds c =
    let n : c.len-i.result ≡ length c.args.w.now.pairs = search rules in
    pair_adds c.args.w.now _ c.add.new.self c.row.result c.row-2.result c.len-i.result c.args.n c.args.lits.now (record { first = (get_or c.args.lits.now (length c.args.lits.now - 1) (record { variable = 0; positive = false })); second = (get_or c.args.lits.now (length c.args.lits.now - 2) (record { variable = 0; positive = false })) }) c.requires.within (last_two c.args.lits.now (length c.args.lits.now) (record { variable = 0; positive = false }) (record { variable = 0; positive = false }) refl (omega (arith, c.if-len-lt2.false)) c.requires.once) (last_are c.args.lits.now (length c.args.lits.now) (record { variable = 0; positive = false }) (record { variable = 0; positive = false }) refl (omega (arith, c.if-len-lt2.false))) c.requires.rows n c.row.ensures c.row-2.ensures c.in_ok-add.ensures.ok c.in_ok-add-2.ensures.ok c.in_ok-push.ensures.items
