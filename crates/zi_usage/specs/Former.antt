-- Words of 0install, and what zi has for each: the table of docs/USE.md.
use Rattle.std.specs.Prelude.{ℕ, Bool, ◌||◌, if◌then◌else◌, List, codes, bytes_eq, Option, Some, None}
use Rattle.zi_usage.specs.Places.{Word}
use Rattle.zi_usage.specs.Advice.{begins}
use Rattle.zi_usage.specs.declared.place.Behind.{Behind}
use Rattle.zi_usage.specs.declared.place.Behind.TheVariants as behind
use Rattle.zi_usage.specs.declared.place.Place.{Place}
use Rattle.zi_usage.specs.declared.place.Place.TheVariants as place

-- commands
unfoldable pub of_command : Word → Option (List ℕ)
of_command w =
    if bytes_eq w (codes "-h") || (bytes_eq w (codes "help") || bytes_eq w (codes "man")) then Some (codes "zi --help says what there is, and man zi")
    else if bytes_eq w (codes "update") then Some (codes "zi download ROOT fetches what is chosen from the feeds that are there")
    else if bytes_eq w (codes "digest") then Some (codes "zi manifest ALGORITHM NAME has the digest in its last line")
    else if bytes_eq w (codes "config") then Some (codes "zi keeps no settings: --level testing helps with testing")
    else if bytes_eq w (codes "import") || (bytes_eq w (codes "add-feed") || (bytes_eq w (codes "list-feeds") || bytes_eq w (codes "remove-feed")))
    then Some (codes "a feed is a file in the folder that ZI_FEEDS names")
    else if bytes_eq w (codes "add") || bytes_eq w (codes "destroy") then Some (codes "an alias is a script that has zi run ROOT \"$@\"")
    else if bytes_eq w (codes "list") || bytes_eq w (codes "search") then Some (codes "zi store list lists what is stored, and the folder ZI_FEEDS has the feeds")
    else None

-- commands on the store
unfoldable pub of_store : Word → Option (List ℕ)
of_store w =
    if bytes_eq w (codes "manage") || bytes_eq w (codes "remove") then Some (codes "zi store purge FILE.. takes out all that no selections in FILE.. have")
    else if bytes_eq w (codes "manifest") then Some (codes "zi manifest ALGORITHM NAME writes the manifest of a tree in a store")
    else if bytes_eq w (codes "audit") then Some (codes "zi store verify DIGEST checks one tree, zi store list lists all")
    else if bytes_eq w (codes "copy") then Some (codes "ZI_STORES names stores that are read besides")
    else if bytes_eq w (codes "find") then Some (codes "a stored tree is the folder of its digest in the folder that ZI_STORE names")
    else None

-- options on what may be chosen, or on where it is
unfoldable pub of_limit : Word → Option (List ℕ)
of_limit w =
    if bytes_eq w (codes "--before") then Some (codes "zi has --version ..!V for --before V")
    else if bytes_eq w (codes "--not-before") then Some (codes "zi has --version V.. for --not-before V")
    else if bytes_eq w (codes "--command=") then Some (codes "zi has --no-command for an empty command")
    else if bytes_eq w (codes "--offline") || bytes_eq w (codes "-o") then Some (codes "zi has --network off")
    else if bytes_eq w (codes "--refresh") || bytes_eq w (codes "-r") then Some (codes "zi uses no network: the feeds in the folder ZI_FEEDS are got anew by other means")
    else if bytes_eq w (codes "--with-store") then Some (codes "zi has the variable ZI_STORES, or ZI_STORE for the store that is written")
    else if bytes_eq w (codes "--source") || (bytes_eq w (codes "-s") || bytes_eq w (codes "--may-compile")) then Some (codes "zi chooses what runs, and nothing to compile")
    else None

-- options on how things are shown or started
unfoldable pub of_style : Word → Option (List ℕ)
of_style w =
    if bytes_eq w (codes "--xml") then Some (codes "without --xml: select and download write the document in any case")
    else if bytes_eq w (codes "-h") || bytes_eq w (codes "--help") then Some (codes "zi --help stands alone")
    else if bytes_eq w (codes "-v") || bytes_eq w (codes "--verbose") then Some (codes "zi has the variable ZI_LOG, which is - for standard error")
    else if bytes_eq w (codes "--console") || (bytes_eq w (codes "-c") || (bytes_eq w (codes "--gui") || bytes_eq w (codes "-g")))
    then Some (codes "zi asks nothing, so there is no such option")
    else if bytes_eq w (codes "--dry-run") then Some (codes "zi select ROOT writes what would be run")
    else if bytes_eq w (codes "--main") || (bytes_eq w (codes "-m") || (bytes_eq w (codes "--wrapper") || bytes_eq w (codes "-w")))
    then Some (codes "zi starts what the feed says: --command NAME says which")
    else None

-- the first that is there
abbrev pub or_else : Option (List ℕ) → Option (List ℕ) → Option (List ℕ)
or_else (Some t) other = Some t
or_else None other = other

abbrev pub of_option : Word → Option (List ℕ)
of_option w = or_else (of_limit w) (of_style w)

-- a word where a program is named that is to be started
abbrev pub of_program : Word → Option (List ℕ)
of_program w = if begins (codes "-") w then of_option w else Some (codes "selections are started by zi launch FILE")

-- where an option or ROOT stands
abbrev pub at_option : Behind → Word → Option (List ℕ)
at_option behind.Words w = of_program w
at_option behind.Nothing w = of_option w
at_option behind.Proof w = of_option w
at_option behind.Selections w = of_option w

abbrev pub former : Place → Word → Option (List ℕ)
former place.Command w = of_command w
former place.Store w = of_store w
former (place.Option b) w = at_option b w
former place.Script w = of_option w
former (place.Root b) w = of_option w
former place.Nothing w = of_option w
former (place.Argument a b) w = None
former place.Selections w = None
former place.Proof w = None
former place.Algorithm w = None
former place.Tree w = None
former place.Digest w = None
former place.Added w = None
former place.File w = None
former place.Shown w = None
former place.Launched w = None
former place.Kept w = None
former place.Number w = None
former place.Words w = None
