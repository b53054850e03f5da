-- The derived == of two records is the definition's test: laws only, nothing to believe.
--     pointwise_is     std's test of two lists is the definition's; equal_is: and so its test of two integers
--     record_is        so the derived one of two records, field after field
use Rattle.std.specs.Prelude.{◌≡◌, Bool, ◌&&◌, List, [], ◌∷◌, ℤ, eqb}
use Rattle.std.proofs.Common.{refl, ap₂, subst, true}
use Rattle.std.proofs.Math.Bool.{and_assoc}
use Rattle.std.specs.Cmp.{signed_Decides}
use Rattle.std.specs.Cmp.Lexicographic.{pointwise}
use Rattle.std.specs.Ordering.{int_eq}
use Rattle.laws.specs.Lists.{pairwise}
use Rattle.laws.specs.Rows.{same_test}
use Rattle.site.specs.declared.Site.{Site}
use Rattle.record.specs.declared.Record.{Record}
use Rattle.validity.specs.Validity.{equalℤ}
use Rattle.validity.specs.Laws.{equal, itself}
use Rattle.readings.specs.Readings.{same_site, same_coefficients, same_water, same_record}

pointwise_is : {A : Type 0} (t u : A → A → Bool) → ((a b : A) → t a b ≡ u a b) → (l m : List A) → pairwise t l m ≡ pointwise u l m
unfolding pairwise
pointwise_is t u h [] [] = refl
pointwise_is t u h [] (b ∷ m) = refl
pointwise_is t u h (a ∷ l) [] = refl
pointwise_is t u h (a ∷ l) (b ∷ m) = ap₂ ◌&&◌ (h a b) (pointwise_is t u h l m)

equal_is : (x y : ℤ) → equalℤ x y ≡ int_eq x y
equal_is x y = same_test (equalℤ x y) (int_eq x y)
    (λ e. (signed_Decides x y).1 (equal x y e))
    (λ e. subst (λ z. equalℤ x z ≡ true) ((signed_Decides x y).0 e) (itself x))

-- field after field, as the derives compare them
abbrev derived_site : Site → Site → Bool
derived_site s t = eqb s.layers t.layers && (pointwise eqb s.thickness t.thickness && (pointwise eqb s.screened t.screened && (pointwise eqb s.kh t.kh && (pointwise eqb s.kv t.kv && (pointwise eqb s.storage t.storage && (eqb s.columns t.columns && (pointwise eqb s.radii t.radii && (eqb s.well_radius t.well_radius && (eqb s.water_area t.water_area && (eqb s.intake t.intake && (eqb s.friction t.friction && (eqb s.loss_count t.loss_count && (pointwise eqb s.loss_coefficients t.loss_coefficients)))))))))))))

abbrev pub derived : Record → Record → Bool
derived r q = derived_site r.site q.site && (pointwise eqb r.screen q.screen && (pointwise eqb r.horizontal q.horizontal && (pointwise eqb r.vertical q.vertical && (pointwise eqb r.storages q.storages && (pointwise int_eq r.losses q.losses && (eqb r.well_storage q.well_storage && (int_eq r.well_loss q.well_loss && (eqb r.pumped q.pumped && (int_eq r.inflow q.inflow && (eqb r.time q.time && (int_eq r.mark q.mark)))))))))))

site_is : (s t : Site) → same_site s t ≡ derived_site s t
unfolding same_site
site_is s t = simp (pointwise_is eqb eqb (λ a b. refl)) (simp and_assoc)

pub record_is : (r q : Record) → same_record r q ≡ derived r q
unfolding same_record same_coefficients same_water
record_is r q = rw (site_is r.site q.site) (simp (pointwise_is eqb eqb (λ a b. refl), pointwise_is equalℤ int_eq equal_is, equal_is) (simp and_assoc))
