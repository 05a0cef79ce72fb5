use Rattle.std.proofs.Common.{◌≡◌, ◌++◌, ◌∙◌, List, ap, subst}
use Rattle.std.specs.List.{filter_map}
use Rattle.std.proofs.lemmas.Result.{on_ok_weaker}
use Rattle.zi_parts.specs.declared.types.Impl.{Impl}
use Rattle.zi_parts.specs.declared.types.Native.{Native}
use Rattle.zi_packages.specs.declared.types.Packages.{Packages}
use Rattle.zi_packages.specs.declared.named.Pick.{Pick}
use Rattle.zi_packages.specs.Natives.{with_rows}
use Rattle.zi_packages.specs.Picks.{all_picked}
use Rattle.zi_universe.specs.Loading.{store_of}
use Rattle.zi_refused.specs.Refused.{refusal_at}
use Rattle.zi_refused.proofs.RefusedLaws.{added}
use Rattle.zi_refused.proofs.refusing.add_feed.Goals as goal

pub returns : goal.returns
returns c =
    let t = c.args.terms.now in
    let f = c.args.feed.now in
    let h = refusal_at t.req t.policy (store_of t) c.args.interface.now in
    let ps = all_picked c.in_ok-picks.picks.items in
    let P : Packages → Type 0 = λ q. with_rows q c.as_slice-impls.result.now c.as_slice.result.now ≡ c.as_slice-impls.result.now ++ ps in
    let Q : List Impl → Type 0 = λ q. with_rows t.packages q c.as_slice.result.now ≡ q ++ ps in
    let R : List Native → Type 0 = λ q. with_rows t.packages f.impls q ≡ f.impls ++ ps in
    let are : with_rows t.packages f.impls f.natives ≡ f.impls ++ ps = subst R c.as_slice.ensures (subst Q c.as_slice-impls.ensures (subst P c.rows.ensures c.in_ok-picks.ensures.are)) in
    on_ok_weaker c.add_rows.result
    (λ e. added t.req t.policy (store_of t) c.args.interface.now f ps c.args.refusals.now c.add_impls.new.refusals c.add_rows.new.refusals are
    (c.in_ok-add_impls.ensures ∙ ap (λ (is : List Impl). c.args.refusals.now ++ filter_map h is) c.as_slice-impls.ensures)
    (e ∙ ap (λ (qs : List Pick). c.add_impls.new.refusals ++ filter_map h (all_picked qs)) c.as_slice-2.ensures.value))
    c.add_rows.ensures
