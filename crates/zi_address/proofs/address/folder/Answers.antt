use Rattle.std.proofs.Common.{◌++◌, Some, None, sym, ap, lit<, arith}
use Rattle.std.proofs.lemmas.Str.Pattern.{rfind_char}
use Rattle.zi_address.specs.Address.{without_last}
use Rattle.zi_address.specs.Texts.{pieces_of}
use Rattle.zi_address.proofs.AddressLemmas.{folder_of, one_piece}
use Rattle.zi_address.proofs.address.folder.Goals as goal

pub returns-in-Some : goal.returns-in-Some
returns-in-Some c = λ more.
    folder_of c.args.base.now c.range.result.now more c.in-Some.last (rfind_char 47 c.args.base.now (Some c.in-Some.last) c.in-Some.ensures.cases (lit< tt)) (grind arith)

pub returns-in-None : goal.returns-in-None
returns-in-None c = λ more.
    ap (λ l. without_last l ++ pieces_of 47 more) (sym (one_piece c.args.base.now (rfind_char 47 c.args.base.now None c.in-None.ensures.cases (lit< tt))))
