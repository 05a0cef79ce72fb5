use Rattle.zi_words.proofs.OneLaws.{one_right}
use Rattle.zi_words.proofs.laws.one_request.Goals as goal

pub returns : goal.returns
returns c = one_right c.spelling_is_one_to_one.ensures
