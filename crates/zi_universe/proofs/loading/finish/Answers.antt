use Rattle.std.proofs.Common.{◌≡◌, ◌∷◌, [], ◌++◌, List, length, refl, ◌∙◌, ap, sym, subst, arith}
use Rattle.std.proofs.lemmas.List.Sorted.{length_permutation}
use Rattle.std.proofs.lemmas.List.{length-map}
use Rattle.zi_policy.specs.declared.types.Policy.{Policy}
use Rattle.zi_feed.specs.declared.shares.Shares.{Shares}
use Rattle.zi_universe.specs.declared.types.Candidate.{Candidate}
use Rattle.zi_universe.specs.declared.offers.Offered.{Offered}
use Rattle.zi_universe.specs.Naming.{Uri, joined}
use Rattle.zi_universe.specs.Candidates.{asked_by_all}
use Rattle.zi_universe.specs.Stages.{IsSorting}
use Rattle.zi_universe.specs.Offering.{candidates_of, AreNumbered}
use Rattle.zi_universe.proofs.loading.finish.Goals as goal

pub rank-requires : goal.rank-requires
rank-requires c =
    let P : List Shares → Type 0 = λ q. AreNumbered q c.args.offers.offered.items in
    subst P (sym c.as_slice-shares.ensures) c.requires.numbered

pub add_asked-requires : goal.add_asked-requires
add_asked-requires c =
    let P : List Offered → Type 0 = λ q. AreNumbered c.as_slice-shares.result.now q in
    subst P (sym c.as_slice-all.ensures.value) c.in_ok-ranked.ensures.numbered

pub returns-then-len-gt-MOST_INTERFACES : goal.returns-then-len-gt-MOST_INTERFACES
returns-then-len-gt-MOST_INTERFACES c =
    let offered = candidates_of c.args.offers.offered.items in
    let cs = candidates_of c.in_ok-ranked.ranked.items in
    let P : Policy → Type 0 = λ p. IsSorting p offered cs in
    let sorting : IsSorting c.args.wanted.now.policy offered cs = subst P c.policy.ensures c.in_ok-ranked.ensures.sorting in
    let same : length cs ≡ length offered = length_permutation offered cs sorting.same in
    let count : length offered ≡ length c.args.offers.offered.items = length-map c.args.offers.offered.items (λ (o : Offered). o.candidate) in
    let asked = c.in_ok-add_asked.ensures ∙ ap (λ (l : List Offered). joined c.args.state.now.names.keys (asked_by_all (candidates_of l))) c.as_slice-all.ensures.value in
    let long = ap (λ (l : List Uri). length l) asked in (
      refl,
      record {
        cs = cs;
        sorting = sorting;
        few_candidates = omega arith;
        many = omega arith;
      },
    )

pub returns : goal.returns
returns c =
    let offered = candidates_of c.args.offers.offered.items in
    let cs = candidates_of c.in_ok-ranked.ranked.items in
    let P : Policy → Type 0 = λ p. IsSorting p offered cs in
    let sorting : IsSorting c.args.wanted.now.policy offered cs = subst P c.policy.ensures c.in_ok-ranked.ensures.sorting in
    let same : length cs ≡ length offered = length_permutation offered cs sorting.same in
    let count : length offered ≡ length c.args.offers.offered.items = length-map c.args.offers.offered.items (λ (o : Offered). o.candidate) in
    record {
      cs = cs;
      sorting = sorting;
      done = c.in_ok-push.ensures.ok
          ∙ ap (λ (q : List Candidate). c.args.state.now.done ++ record { uri = c.args.uri; candidates = q } ∷ []) (c.from_vec-candidates.ensures ∙ c.in_ok-items.ensures);
      names = c.in_ok-add_asked.ensures ∙ ap (λ (l : List Offered). joined c.args.state.now.names.keys (asked_by_all (candidates_of l))) c.as_slice-all.ensures.value;
      table = refl;
      count = omega arith;
      few_candidates = omega arith;
      few_interfaces = omega arith;
    }
