use Rattle.std.proofs.Common.{map, sym, ap, ◌∙◌}
use Rattle.std.proofs.lemmas.List.{take-map}
use Rattle.zi_folder.proofs.open_folders.OpenFolders.keep.Goals as goal

pub returns-then-count-len-clause-first : goal.returns-then-count-len-clause-first
returns-then-count-len-clause-first c = ap (map (λ folder. folder.name)) c.truncate.ensures.items ∙ sym (take-map (λ folder. folder.name) c.args.count c.args.self.now.folders.items)
