-- A tree as a value: a finite map from names to files, links and trees, as the list of its entries in byte order of the names.
use Rattle.std.specs.Prelude.{◌≡◌, ℕ, ◌+◌, Bool, List, ℤ, refl}
use base.Stored.{Gv, gnil, gnum, gcons, Coded, coded_ℕ, coded_bool, coded_ℤ, coded_list}

pub data Dir : Type 0 where
  Nothing : Dir
  AFile : (name bytes : List ℕ) (exec : Bool) (mtime : ℤ) (rest : Dir) → Dir
  ALink : (name target : List ℕ) (rest : Dir) → Dir
  AFolder : (name : List ℕ) (inside rest : Dir) → Dir

-- Below, a code of trees, which the toolchain asks of a model's value.
abbrev pub bytes_code : List ℕ → Gv
bytes_code = (coded_list coded_ℕ).code

abbrev pub dir_gv : Dir → Gv
dir_gv Nothing = gnil
dir_gv (AFile n b e m rest) = gcons gnil (gcons (bytes_code n) (gcons (bytes_code b) (gcons (coded_bool.code e) (gcons (coded_ℤ.code m) (dir_gv rest)))))
dir_gv (ALink n t rest) = gcons (gnum 0) (gcons (bytes_code n) (gcons (bytes_code t) (dir_gv rest)))
dir_gv (AFolder n inside rest) = gcons (gcons gnil gnil) (gcons (bytes_code n) (gcons (dir_gv inside) (dir_gv rest)))

abbrev bytes_inj : (x y : List ℕ) → bytes_code x ≡ bytes_code y → x ≡ y
bytes_inj = (coded_list coded_ℕ).inj

pub dir_gv_inj : (x y : Dir) → dir_gv x ≡ dir_gv y → x ≡ y
dir_gv_inj Nothing Nothing p = refl
dir_gv_inj Nothing (AFile n b e m r) p = absurd (cc p)
dir_gv_inj Nothing (ALink n t r) p = absurd (cc p)
dir_gv_inj Nothing (AFolder n i r) p = absurd (cc p)
dir_gv_inj (AFile n b e m r) Nothing p = absurd (cc p)
dir_gv_inj (AFile n b e m r) (AFile n' b' e' m' r') p =
    let en = bytes_inj n n' (cc p) in
    let eb = bytes_inj b b' (cc p) in
    let ee = coded_bool.inj e e' (cc p) in
    let em = coded_ℤ.inj m m' (cc p) in
    let er = dir_gv_inj r r' (cc p) in
    cc (en, eb, ee, em, er)
dir_gv_inj (AFile n b e m r) (ALink n' t r') p = absurd (cc p)
dir_gv_inj (AFile n b e m r) (AFolder n' i r') p = absurd (cc p)
dir_gv_inj (ALink n t r) Nothing p = absurd (cc p)
dir_gv_inj (ALink n t r) (AFile n' b e m r') p = absurd (cc p)
dir_gv_inj (ALink n t r) (ALink n' t' r') p =
    let en = bytes_inj n n' (cc p) in
    let et = bytes_inj t t' (cc p) in
    let er = dir_gv_inj r r' (cc p) in
    cc (en, et, er)
dir_gv_inj (ALink n t r) (AFolder n' i r') p = absurd (cc p)
dir_gv_inj (AFolder n i r) Nothing p = absurd (cc p)
dir_gv_inj (AFolder n i r) (AFile n' b e m r') p = absurd (cc p)
dir_gv_inj (AFolder n i r) (ALink n' t r') p = absurd (cc p)
dir_gv_inj (AFolder n i r) (AFolder n' i' r') p =
    let en = bytes_inj n n' (cc p) in
    let ei = dir_gv_inj i i' (cc p) in
    let er = dir_gv_inj r r' (cc p) in
    cc (en, ei, er)

abbrev pub dir_code : Coded Dir
dir_code = record { code = dir_gv; inj = dir_gv_inj }

-- how many entries stand in it, at every depth
abbrev pub size_of : Dir → ℕ
size_of Nothing = 0
size_of (AFile n b e m rest) = 1 + size_of rest
size_of (ALink n t rest) = 1 + size_of rest
size_of (AFolder n inside rest) = 1 + size_of inside + size_of rest
