-- `step_conditions::table_too_deep`: what the chain's `any` gives is that not every slot is within its depth.
use Rattle.std.proofs.Common.{◌≡◌, refl, ap, ◌∙◌, ℕ, ◌*◌, Bool, true, false, not, ◌||◌, ◌&&◌, List, [], ◌∷◌, get_or, pos, arith, rules, tests}
use Rattle.std.specs.List.{list_any, list_all, range_with_len}
use Rattle.std.proofs.lemmas.Iterator.{YieldsList-from_range}
use Rattle.std.proofs.lemmas.Iterator.Search.{any_from_yields_List}
use Rattle.validity_drawdowns.specs.Drawdowns.{deeper}
use Rattle.laws.specs.Chains.{all_counted}
use Rattle.step_conditions.specs.Conditions.{table_within}
use Rattle.step_conditions.proofs.table_too_deep.Goals as goal

any-not_all : (t : ℕ → Bool) (l : List ℕ) → list_any t l ≡ not (list_all (λ k. not (t k)) l)
any-not_all t [] = refl
any-not_all t (x ∷ l) = by_test (t x) _ _ (any-not_all t l)
  where
    by_test : (b p q : Bool) → p ≡ not q → (b || p) ≡ not (not b && q)
    by_test true p q e = refl
    by_test false p q e = e

pub returns : goal.returns
unfolding table_within
returns c =
    let a = c.args in
    let n = c.saturating_sub.result in
    let deep : ℕ → Bool = λ k. deeper (1000 * a.thickness) (get_or a.storages.now k 0) (get_or a.losses.now k (pos 0)) in
    any_from_yields_List deep _ _ c.any.result c.any.ensures.ran (YieldsList-from_range 0 n n refl (omega arith)) (λ x b q k. search (rules, tests))
    ∙ any-not_all deep (range_with_len 0 n)
    ∙ ap not (all_counted (λ k. not (deep k)) n refl ∙ rw c.saturating_sub.ensures)
