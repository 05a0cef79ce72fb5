use Rattle.zi_launching.proofs.ReadyLaws.{no_plan, no_words}
use Rattle.zi_launching.proofs.shims.calls_of.Goals as goal

pub returns-in-Err : goal.returns-in-Err
returns-in-Err c = no_plan c.args.sels.now c.args.vars.now c.args.user.now c.args.folders.now c.in-Err.fault c.unplanned.result c.unplanned.ensures c.in-Err.ensures

pub returns-in-Err-shim_words : goal.returns-in-Err-shim_words
returns-in-Err-shim_words c =
    no_words c.args.sels.now c.args.vars.now c.args.user.now c.args.folders.now c.in-Err-shim_words.fault c.unplanned-in-Err-shim_words.result c.unplanned-in-Err-shim_words.ensures c.in-Ok.field-0 c.in-Ok.ensures c.in-Err-shim_words.ensures
