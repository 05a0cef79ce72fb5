-- The words of stabilities (the Zero Install feed format); `preferred` is the user's.
use Rattle.std.specs.Prelude.{ℕ, List, bytes_eq, Option, Some, None, codes, if◌then◌else◌}
use Rattle.zi_policy.specs.declared.types.Stability.{Stability}
use Rattle.zi_policy.specs.declared.types.Stability.TheVariants.{Insecure, Buggy, Developer, Testing, Stable, Packaged, Preferred}

abbrev pub stability_text : Stability → List ℕ
stability_text Insecure = codes "insecure"
stability_text Buggy = codes "buggy"
stability_text Developer = codes "developer"
stability_text Testing = codes "testing"
stability_text Stable = codes "stable"
stability_text Packaged = codes "packaged"
stability_text Preferred = codes "preferred"

-- the stability whose word a text is
unfoldable pub stability_of : List ℕ → Option Stability
stability_of text =
    if bytes_eq text (stability_text Insecure) then Some Insecure
    else if bytes_eq text (stability_text Buggy) then Some Buggy
    else if bytes_eq text (stability_text Developer) then Some Developer
    else if bytes_eq text (stability_text Testing) then Some Testing
    else if bytes_eq text (stability_text Stable) then Some Stable
    else if bytes_eq text (stability_text Packaged) then Some Packaged
    else if bytes_eq text (stability_text Preferred) then Some Preferred
    else None
