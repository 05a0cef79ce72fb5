use Rattle.std.proofs.Common.{◌≡◌, ap, sym, ◌∙◌, subst}
use Rattle.zi_doc.specs.View.{BareWord, owner_in, level}
use Rattle.zi_xml.specs.Machine.{state, named}
use Rattle.zi_xml.specs.Meaning.{tick}
use Rattle.zi_doc.specs.declared.state.Word.{Word}
use Rattle.zi_doc.proofs.Stacks.{named_owner, bare_owner}
use Rattle.zi_doc.proofs.state.Reader.after_word.Goals as goal

pub returns-in-Over : goal.returns-in-Over
returns-in-Over c = rw c.in-Over.is (c.back.ensures c.args.at c.args.c)

pub returns-in-Key : goal.returns-in-Key
returns-in-Key c =
    let s = c.args.self.now in
    let P : Word → Type 0 = λ w. BareWord w s.owner s.rooted in
    let bare = subst P c.in-Key.is c.requires.bare in
    rw c.in-Key.is (ap (λ o. state (named o) (tick c.args.c (level s c.args.at))) (named_owner s.owner _ bare.1), (c.requires.sound, bare_owner s.owner s.rooted bare.0))
