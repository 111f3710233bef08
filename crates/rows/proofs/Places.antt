-- The places of a row hold the terms that it is made of.
use Rattle.std.proofs.Common.{◌≡◌, ◌≤◌, List, [], ◌∷◌, length, take, refl, arith}
use Rattle.rows.specs.declared.row.Term.{Term}
use Rattle.rows.specs.Meaning.{most_terms}
use Rattle.rows.specs.Making.{places_of}

pub places_kept : (ts : List Term) → length ts ≤ most_terms → take (length ts) (places_of ts) ≡ ts
places_kept [] h = refl
places_kept (a ∷ []) h = refl
places_kept (a ∷ (b ∷ [])) h = refl
places_kept (a ∷ (b ∷ (c ∷ []))) h = refl
places_kept (a ∷ (b ∷ (c ∷ (d ∷ [])))) h = refl
places_kept (a ∷ (b ∷ (c ∷ (d ∷ (e ∷ []))))) h = refl
places_kept (a ∷ (b ∷ (c ∷ (d ∷ (e ∷ (f ∷ [])))))) h = refl
places_kept (a ∷ (b ∷ (c ∷ (d ∷ (e ∷ (f ∷ (g ∷ []))))))) h = refl
places_kept (a ∷ (b ∷ (c ∷ (d ∷ (e ∷ (f ∷ (g ∷ (i ∷ [])))))))) h = refl
places_kept (a ∷ (b ∷ (c ∷ (d ∷ (e ∷ (f ∷ (g ∷ (i ∷ (j ∷ ts))))))))) h = absurd (omega arith)
