-- `read_deep_cells::keep_codes` meets its contract: the slots passed hold codes, the others still keys.
use Rattle.std.proofs.Common.{◌≡◌, sym, ap, ◌∙◌, List, map, ℕ, ◌%◌, le_refl, arith, length, get_or, ext_get_or}
use lib.ListN.{length-map, get_or-map}
use Rattle.laws.specs.Fill.{fill, fill_none, fill_more, length-fill, get_or-fill, get_or-fill_rest}
use Rattle.read_deep_cells.proofs.keep_codes.Goals as goal

-- the code of the key in slot k
abbrev code_in : List ℕ → ℕ → ℕ
code_in l k = get_or l k 0 % 10000

-- all slots written
whole : (l : List ℕ) → fill (length l) (code_in l) l ≡ map (λ x. x % 10000) l
whole l = ext_get_or 0 (fill (length l) (code_in l) l) (map (λ x. x % 10000) l) (long ∙ sym (length-map l (λ x. x % 10000)))
    (λ k h. get_or-fill (code_in l) l (length l) k 0 (omega (arith, long)) (omega (arith, long)) ∙ sym (get_or-map (λ x. x % 10000) l k 0))
  where
    long : length (fill (length l) (code_in l) l) ≡ length l
    long = length-fill (code_in l) l (length l)

pub loop-x-init : goal.loop-x-init
loop-x-init c = sym (fill_none _ _)

pub loop-x-preserved : goal.loop-x-preserved
loop-x-preserved c =
    let l = c.args.list.now in
    let k = c.loop-x.x-index in
    let e = c.loop-x.invariant in
    fill_more (code_in l) l k e (ap (λ m. get_or m k 0 % 10000) e ∙ ap (λ x. x % 10000) (get_or-fill_rest (code_in l) l k k 0 (le_refl k)))

pub returns : goal.returns
returns c =
    let l = c.args.list.now in
    let e : c.loop-x.x-index ≡ length l = omega (arith, ap length c.loop-x.invariant ∙ length-fill (code_in l) l c.loop-x.x-index) in
    c.loop-x.invariant ∙ rw e (whole l)
