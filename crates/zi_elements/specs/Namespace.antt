-- The namespace of feeds and of selections (the Zero Install feed format).
use Rattle.std.specs.Prelude.{ℕ, List, codes}

unfoldable pub injector : List ℕ
injector = codes "http://zero-install.sourceforge.net/2004/injector/interface"
