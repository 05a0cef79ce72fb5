-- The manifest of a tree and its digest.
use Rattle.std.specs.Prelude.{◌≡◌, ℕ, Bool, List, [], Option, None, Some, ◌||◌, nat_eq, bytes_eq, if◌then◌else◌, codes}
use Rattle.std.specs.Option.{option_or}
use Rattle.std.specs.List.{list_any}
use Rattle.zi_digest.specs.declared.Algorithm.{Algorithm}
use Rattle.zi_digest.specs.declared.DigestName.{DigestName}
use Rattle.zi_digest.specs.Name.{name_of}
use Rattle.zi_tree.specs.Dir.{Dir, Nothing, AFile, ALink, AFolder}
use Rattle.zi_manifest.specs.Sketch.{sketch, text_of, joined}

-- the file that holds a stored tree's manifest
abbrev pub own_name : List ℕ
own_name = codes ".manifest"

abbrev pub has_newline : List ℕ → Bool
has_newline n = list_any (λ c. nat_eq c 10) n

-- a name that no manifest has
abbrev pub is_bad : List ℕ → Bool
is_bad n = has_newline n || bytes_eq n own_name

-- the first bad name among the files and links of the folder at this path
abbrev pub leaf_bad : List ℕ → Dir → Option (List ℕ)
leaf_bad p Nothing = None
leaf_bad p (AFile n b e t rest) = if is_bad n then Some (joined p n) else leaf_bad p rest
leaf_bad p (ALink n t rest) = if is_bad n then Some (joined p n) else leaf_bad p rest
leaf_bad p (AFolder n inside rest) = leaf_bad p rest

-- the first one among its subfolders and in them
abbrev pub folder_bad : List ℕ → Dir → Option (List ℕ)
folder_bad p Nothing = None
folder_bad p (AFile n b e t rest) = folder_bad p rest
folder_bad p (ALink n t rest) = folder_bad p rest
folder_bad p (AFolder n inside rest) =
    if is_bad n then Some (joined p n) else option_or (leaf_bad (joined p n) inside) (option_or (folder_bad (joined p n) inside) (folder_bad p rest))

-- the path of the first bad name, in the order of the manifest's lines
abbrev pub first_bad : Dir → Option (List ℕ)
first_bad d = option_or (leaf_bad [] d) (folder_bad [] d)

-- the tree without a regular file `.manifest` in the top folder
abbrev pub as_read : Dir → Dir
as_read Nothing = Nothing
as_read (AFile n b e t rest) = if bytes_eq n own_name then as_read rest else AFile n b e t (as_read rest)
as_read (ALink n t rest) = ALink n t (as_read rest)
as_read (AFolder n inside rest) = AFolder n inside (as_read rest)

-- the manifest, where no name is bad
abbrev pub manifest : Algorithm → Dir → List ℕ
manifest a d = text_of (sketch a (as_read d))

-- no name is bad
abbrev pub HasManifest : Dir → Type 0
HasManifest d = first_bad (as_read d) ≡ None

-- the digest
abbrev pub digest_of : Algorithm → Dir → DigestName
digest_of a d = name_of a (manifest a d)
