-- `read_deep_cells::write_keys` meets its contract: after k turns the keys of the deep ones of the first k slots are written.
use Rattle.std.proofs.Common.{◌≡◌, sym, ap, ◌∙◌, true, false, List, ℕ, ◌≤◌, ◌<◌, arith, length, get_or}
use Rattle.read_deep_cells.specs.Codes.{code_of, key_by, key_of, below, deep_at}
use Rattle.read_deep_cells.proofs.Slots.{length_most, with_front, length_with, with_all}
use Rattle.read_deep_cells.proofs.Turn.{none_counted, none_written, passed_over, counted, room, written}
use Rattle.read_deep_cells.proofs.write_keys.Goals as goal
use Rattle.read_deep_cells.proofs.write_keys.Goals.{then-is_deep, else-is_deep}

code-small : (k : ℕ) → k < 1000 → code_of k < 10000
unfolding code_of
code-small k h = omega arith

key-is : (ds : List ℕ) (k : ℕ) {c v : ℕ} → v ≡ key_by (get_or ds k 0) c → c ≡ code_of k → v ≡ key_of ds k
unfolding key_of
key-is ds k e q = e ∙ ap (key_by (get_or ds k 0)) q

-- the list is as long as it was
long : (D : ℕ) (ds : List ℕ) (k n : ℕ) (old : List ℕ) {l : List ℕ} → l ≡ with_front (below (deep_at D ds) (key_of ds) k) old → k ≤ n
    → length old ≡ length (below (deep_at D ds) (key_of ds) n) → length l ≡ length old
long D ds k n old e h q = ap length e ∙ length_with _ old (omega (arith, length_most (deep_at D ds) (key_of ds) k n h))

pub loop-k-init : goal.loop-k-init
loop-k-init c = (omega arith, none_counted _ _ _, none_written _ _ _ _)

pub key-requires : goal.key-requires
key-requires c = (c.requires.n_bound.1 _, rw c.code.ensures (code-small _ (omega arith)))

-- the next key has its slot
pub bounds-list-at : goal.bounds-list-at
bounds-list-at c =
    let D = c.args.depth in
    let ds = c.args.depths.now in
    let k = c.loop-k.k in
    omega (arith, long D ds k c.args.n c.args.list.now c.loop-k.invariant.2 (omega arith) c.requires.list_len, room D ds (key_of ds) k (sym c.is_deep.ensures ∙ c.if-is_deep.true) c.args.n c.args.list.now (omega arith) (omega (arith, c.requires.list_len)))

pub loop-k-preserved : goal.loop-k-preserved
loop-k-preserved c =
    let D = c.args.depth in
    let ds = c.args.depths.now in
    let k = c.loop-k.k in
    elim c.if-is_deep.branch [
      | then-is_deep w ↦
          let deep : deep_at D ds k ≡ true = sym c.is_deep.ensures ∙ w.if-is_deep.true in
          let made : w.key.result ≡ key_by (get_or ds k 0) w.code.result = w.key.ensures in (
            omega arith,
            omega (arith, counted D ds (key_of ds) k deep),
            w.list-is ∙ written D ds (key_of ds) k deep c.args.n c.args.list.now (omega arith) (omega (arith, c.requires.list_len)) c.loop-k.invariant.1 c.loop-k.invariant.2 (key-is ds k made w.code.ensures),
          )
      | else-is_deep w ↦
          let over : deep_at D ds k ≡ false = sym c.is_deep.ensures ∙ w.if-is_deep.false in (
            omega arith,
            omega (arith, ap length (passed_over D ds (key_of ds) k over)),
            w.list-is ∙ c.loop-k.invariant.2 ∙ rw (passed_over D ds (key_of ds) k over),
          )
    ]

pub returns : goal.returns
returns c =
    let e : c.loop-k.k ≡ c.args.n = omega arith in
    c.loop-k.invariant.2 ∙ rw e (with_all _ c.args.list.now c.requires.list_len)
