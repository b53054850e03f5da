-- A word by its halves of 32 bits, as the code takes them, and a number by its two words.
use Rattle.std.proofs.Common.{◌≡◌, ℕ, ◌+◌, ◌*◌, ◌/◌, ◌%◌, ◌^◌, ap, ◌∙◌, div-add-mod', bit_and}
use Rattle.std.specs.Int.Bits.{and_mask}

pub halves : (n : ℕ) → n / 2 ^ 32 * 2 ^ 32 + bit_and n 0xffff_ffff ≡ n
halves n = rw (and_mask n 32) (div-add-mod' n (2 ^ 32))

-- the quotient of a number's two words is the number's
pub of_words : (n d : ℕ) {high low q : ℕ} → high ≡ n / 2 ^ 64 → low ≡ n % 2 ^ 64 → q ≡ (high * 2 ^ 64 + low) / d → q ≡ n / d
of_words n d upper lower e = e ∙ ap (λ (x : ℕ). x / d) (rw (upper, lower) (div-add-mod' n (2 ^ 64)))
