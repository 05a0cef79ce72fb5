use Rattle.zi_doc.proofs.reader.read_document.Goals as goal

pub new-requires : goal.new-requires
new-requires c = c.what_is_read_keeps.ensures.deep c.args.bytes.now c.in-Ok.root c.in-Ok.ensures.found.1
