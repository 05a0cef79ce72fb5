-- What a shelf in memory tells after a call that fills an entry.
use Rattle.std.proofs.Common.{◌≡◌, ℕ, true, false, List, [], ◌∷◌, ◌++◌, map, reverse, Option, Some, Result, Ok, Err, OnOk, Bool, is_some, is_err, sym, ◌∙◌, ap, get_or, slice_set}
use Rattle.zi_tree.specs.Dir.{Dir}
use Rattle.zi_shelf.specs.Names.{Name, put}
use Rattle.zi_shelf.specs.Shelved.{Top, Fill, Did, Fits}
use Rattle.zi_memory.specs.declared.top_entry.TopEntry.{TopEntry}
use Rattle.zi_memory.specs.declared.top_entry.Later.{Later}
use Rattle.zi_shelf.specs.declared.call.ShelfCall.{ShelfCall}
use Rattle.zi_shelf.specs.Filling.{Work, trees, filled}
use Rattle.zi_shelf.specs.Told.{change_call}
use Rattle.zi_memory.specs.Memory.{top_of, tops_of, later_of, told_of, IsAt}
use Rattle.zi_memory.proofs.TopsLemmas.{at_name, tops_set}
use Rattle.zi_memory.proofs.DoingLemmas.{Led, shelved, does, same_shelf, calls_more}
use Rattle.zi_memory.proofs.ReadingLemmas.{top_at}

pub name_is : (es : List TopEntry) (n : Name) (i : ℕ) (x y : TopEntry) → IsAt n es i → x ≡ get_or es i x → y.name ≡ x.name → y.name ≡ n
name_is es n i x y at is e = e ∙ ap (λ (t : TopEntry). t.name) is ∙ at_name es n i x at

-- the entry with its new tree, without the mark
pub filled_does : (es : List TopEntry) (ps : List Later) (cs cs' : List ShelfCall) (c : ShelfCall) (n : Name) (work : Work) (i : ℕ) (x y : TopEntry) → IsAt n es i → x ≡ get_or es i x
    → y.name ≡ x.name → y.settled ≡ false → filled work x.tree ≡ Some y.tree → cs' ≡ cs ++ c ∷ [] → c ≡ change_call (Fill n work)
    → Led (Some (told_of es ps cs)) (Fill n work) Did (Some (told_of (slice_set es i y) ps cs'))
filled_does es ps cs cs' c n work i x y at is en em ef e f =
    let new : Top Dir = record { tree = y.tree; settled = false } in
    let map_is : tops_of (slice_set es i y) ≡ put (tops_of es) n (Some new) =
    tops_set es n i y at (name_is es n i x y at is en) ∙ ap (λ b. put (tops_of es) n (Some (record { tree = y.tree; settled = b }))) em in
    does es (slice_set es i y) ps ps cs cs' (Fill n work) Did (top_of x, y.tree, top_at es n i x at is, ef, same_shelf (map later_of (reverse ps)) (tops_of (slice_set es i y)) (put (tops_of es) n (Some new)) map_is) (calls_more cs cs' c (change_call (Fill n work)) e f)

-- a call that doesn't fit the tree doesn't fit the shelf
pub misfits : (es : List TopEntry) (ps : List Later) (n : Name) (work : Work) (i : ℕ) (x : TopEntry) → IsAt n es i → x ≡ get_or es i x → is_some (filled work x.tree) ≡ false
    → Fits trees (shelved es ps) (Fill n work) → ⊥
misfits es ps n work i x at is misfit fit =
    let tree : x.tree ≡ fit.0.tree = same_tree (top_of x) fit.0 (tops_of es n) (top_at es n i x at is) fit.1 in
    no_tree (is_some (filled work x.tree)) misfit (ap (λ t. is_some (filled work t)) tree ∙ fit.2)
  where
    same_tree : (a b : Top Dir) (o : Option (Top Dir)) → o ≡ Some a → o ≡ Some b → a.tree ≡ b.tree
    same_tree a b o h k = cc (h, k)

    no_tree : (b : Bool) → b ≡ false → b ≡ true → ⊥
    no_tree b h k = let no : false ≡ true = sym h ∙ k in absurd (cc no)

-- what holds of a call that was done
pub done_then : {A B P : Type 0} (r : Result A B) → OnOk r P → is_err r ≡ false → P
done_then (Ok a) p e = p
done_then (Err b) p e = absurd (cc e)
