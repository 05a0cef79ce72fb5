-- Faults of documents and feeds in words.
use Rattle.std.specs.Prelude.{ℕ, List, codes}
use Rattle.zi_doc.specs.declared.fault.DocKind.{DocKind}
use Rattle.zi_doc.specs.declared.fault.DocKind.TheVariants as doc
use Rattle.zi_faults.specs.declared.fault.FeedKind.{FeedKind}
use Rattle.zi_faults.specs.declared.fault.FeedKind.TheVariants as feed

abbrev pub of_document : DocKind → List ℕ
of_document doc.NotUtf8 = codes "this is no UTF-8"
of_document doc.Encoding = codes "another encoding than UTF-8 is declared"
of_document doc.Doctype = codes "a document type may not stand here"
of_document doc.Syntax = codes "from here on this is no well-formed XML"
of_document doc.Entity = codes "this reference means nothing"
of_document doc.Prefix = codes "a namespace prefix isn't declared, or may not be"
of_document doc.Repeated = codes "an attribute stands twice"
of_document doc.Depth = codes "more than 64 elements stand one in another"

abbrev pub of_feed : FeedKind → List ℕ
of_feed feed.NotInterface = codes "the root isn't interface in the namespace of feeds"
of_feed feed.NoId = codes "an implementation has no id"
of_feed feed.BadVersion = codes "a version is missing, or is none"
of_feed feed.BadRange = codes "an expression of versions is none"
of_feed feed.BadArch = codes "arch isn't of its form"
of_feed feed.BadDigest = codes "a digest isn't of its form"
of_feed feed.BadPart = codes "a binding, command or dependency isn't of its form"
of_feed feed.BadStep = codes "a step of a retrieval isn't of its form"
of_feed feed.NoInterface = codes "an interface or src is missing"
of_feed feed.WrongUri = codes "the feed says another address than it was read under"
of_feed feed.BadStability = codes "a feed can't say this stability"
of_feed feed.BadAddress = codes "an address or a local path means nothing"
of_feed feed.SameId = codes "an id stands twice"
of_feed feed.NoPackage = codes "a package has no name"
