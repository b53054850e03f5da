-- A word of the listing as bytes: the code of each letter.
use Rattle.std.specs.Prelude.{ℕ}
use Prim.Native.Char.{code}
use Prim.Native.String.{String, [], ◌∷◌}
use mathlib.Core.List as L

unfoldable pub word : String → L.List ℕ
word [] = L.[]
word (c ∷ s) = L.◌∷◌ (code c) (word s)
