-- Fields written one after the other are the line of them.
use Rattle.std.proofs.Common.{◌≡◌, ap, ◌∙◌, List, [], ◌∷◌, ◌++◌, append_assoc, ℕ, ◌≤◌, ℤ}
use Rattle.decimal.specs.Decimal.{digits_of}
use Rattle.listing_lines.specs.declared.Line.{Line}
use Rattle.listing_lines.specs.Lines.{space, line_feed, line_from, figure_of, line_bytes, held, HoldsLine}
use Rattle.listing_lines.specs.Appended.{appended}
use Rattle.listing_lines.specs.Laws.{held_then, holds}
use Rattle.readings.specs.declared.Totals.{Totals}
use Rattle.listing_entry.specs.EntryLine.{figures_line}

-- a field and the space after it
abbrev spaced : List ℕ → List ℕ
spaced l = l ++ (space ∷ [])

seven : (a b c d e f g : List ℕ) → (((((spaced a ++ spaced b) ++ spaced c) ++ spaced d) ++ spaced e) ++ spaced f) ++ (g ++ (line_feed ∷ [])) ≡ line_from (a ∷ b ∷ c ∷ d ∷ e ∷ f ∷ g ∷ [])
unfolding line_from
seven a b c d e f g = simp append_assoc

module _ (n time : ℕ) (well : ℤ) (t : Totals) {x a b c d e f g : Line} where
  pub figures-held :
      x ≡ held []
      → a ≡ appended x (spaced (digits_of n))
      → b ≡ appended a (spaced (digits_of time))
      → c ≡ appended b (spaced (figure_of well))
      → d ≡ appended c (spaced (digits_of t.pumped))
      → e ≡ appended d (spaced (figure_of t.well_loss))
      → f ≡ appended e (spaced (figure_of t.cell_loss))
      → g ≡ appended f (figure_of t.inflow ++ (line_feed ∷ []))
      → g.length ≤ line_bytes
      → HoldsLine (figures_line n time well t) g
  unfolding figures_line
  figures-held ex ea eb ec ed ee ef eg h =
      holds _ (held_then _ _ (held_then _ _ (held_then _ _ (held_then _ _ (held_then _ _ (held_then _ _ (held_then _ _ ex ea) eb) ec) ed) ee) ef) eg
      ∙ ap held (seven (digits_of n) (digits_of time) (figure_of well) (digits_of t.pumped) (figure_of t.well_loss) (figure_of t.cell_loss) (figure_of t.inflow))) h
