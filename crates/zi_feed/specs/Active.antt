-- What of a feed is active under a policy: the dependencies whose conditions hold, those of commands too.
use Rattle.std.specs.Prelude.{List, map, filter, Option, Some, None}
use Rattle.zi_policy.specs.declared.types.Policy.{Policy}
use Rattle.zi_policy.specs.Platform.{is_active}
use Rattle.zi_parts.specs.declared.types.Dep.{Dep}
use Rattle.zi_parts.specs.declared.types.Command.{Command}
use Rattle.zi_parts.specs.declared.types.Impl.{Impl}
use Rattle.zi_parts.specs.declared.types.Native.{Native}
use Rattle.zi_feed.specs.declared.feed.Feed.{Feed}
use Rattle.zi_feed.specs.declared.along.Own.{Own}

-- the dependencies that are active
abbrev pub active_deps : Policy → List Dep → List Dep
active_deps p ds = filter (λ d. is_active p d.condition) ds

abbrev pub active_command : Policy → Command → Command
active_command p k = record k { deps = active_deps p k.deps }

-- an implementation with its active dependencies alone, and each of its commands with its own
unfoldable pub active_part : Policy → Impl → Impl
active_part p i = record i { deps = active_deps p i.deps; commands = map (active_command p) i.commands }

-- the same of what a feed says of a package
unfoldable pub active_native : Policy → Native → Native
active_native p n = record n { deps = active_deps p n.deps; commands = map (active_command p) n.commands }

-- a feed with such implementations and packages
abbrev pub active_feed : Policy → Feed → Feed
active_feed p f = record f { impls = map (active_part p) f.impls; natives = map (active_native p) f.natives }

-- without a policy all of it
abbrev pub kept_feed : Option Policy → Feed → Feed
kept_feed None f = f
kept_feed (Some p) f = active_feed p f

-- the same of what an element adds
abbrev pub kept_own : Option Policy → Own → Own
kept_own None o = o
kept_own (Some p) o = record o { deps = active_deps p o.deps; commands = map (active_command p) o.commands }
