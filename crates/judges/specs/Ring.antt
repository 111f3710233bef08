-- Products of integers: what the library lacks.
use Rattle.std.specs.Prelude.{◌≡◌, zero, suc, ℤ, pos, negsuc, ◌+ℤ◌, ◌*ℤ◌, ◌≤ℤ◌}
use Rattle.std.proofs.Common.{sym, ap, ◌∙◌, arith}
use Rattle.std.proofs.Math.IntN.{suc_ℤ, pred_ℤ, suc_ℤ-+ℤ, pred_ℤ-+ℤ, suc_ℤ-*ℤ, pred_ℤ-*ℤ, *ℤ_comm, zero-*ℤ, +ℤ_idl}
use Rattle.std.proofs.lemmas.Int.{ints}

distrib_suc : (a b k : ℤ) → (a +ℤ b) *ℤ k ≡ (a *ℤ k) +ℤ (b *ℤ k) → (suc_ℤ a +ℤ b) *ℤ k ≡ (suc_ℤ a *ℤ k) +ℤ (b *ℤ k)
distrib_suc a b k h =
    let e = ap (λ x. x *ℤ k) (suc_ℤ-+ℤ a b) ∙ suc_ℤ-*ℤ (a +ℤ b) k in
    let f = suc_ℤ-*ℤ a k in
    omega (arith, ints)

distrib_pred : (a b k : ℤ) → (a +ℤ b) *ℤ k ≡ (a *ℤ k) +ℤ (b *ℤ k) → (pred_ℤ a +ℤ b) *ℤ k ≡ (pred_ℤ a *ℤ k) +ℤ (b *ℤ k)
distrib_pred a b k h =
    let e = ap (λ x. x *ℤ k) (pred_ℤ-+ℤ a b) ∙ pred_ℤ-*ℤ (a +ℤ b) k in
    let f = pred_ℤ-*ℤ a k in
    omega (arith, ints)

zero_add_times : (b k : ℤ) → (pos 0 +ℤ b) *ℤ k ≡ (pos 0 *ℤ k) +ℤ (b *ℤ k)
zero_add_times b k = ap (λ x. x *ℤ k) (+ℤ_idl b) ∙ sym (ap (λ x. x +ℤ (b *ℤ k)) (zero-*ℤ k) ∙ +ℤ_idl (b *ℤ k))

pub add_times : (a b k : ℤ) → (a +ℤ b) *ℤ k ≡ (a *ℤ k) +ℤ (b *ℤ k)
add_times (pos zero) b k = zero_add_times b k
add_times (pos (suc n)) b k = distrib_suc (pos n) b k (add_times (pos n) b k)
add_times (negsuc zero) b k = distrib_pred (pos zero) b k (zero_add_times b k)
add_times (negsuc (suc n)) b k = distrib_pred (negsuc n) b k (add_times (negsuc n) b k)

pub times_add : (k a b : ℤ) → k *ℤ (a +ℤ b) ≡ (k *ℤ a) +ℤ (k *ℤ b)
times_add k a b = *ℤ_comm k (a +ℤ b) ∙ add_times a b k ∙ ap (λ x. x +ℤ (b *ℤ k)) (*ℤ_comm a k) ∙ ap (λ x. (k *ℤ a) +ℤ x) (*ℤ_comm b k)

assoc_suc : (a b k : ℤ) → (a *ℤ b) *ℤ k ≡ a *ℤ (b *ℤ k) → (suc_ℤ a *ℤ b) *ℤ k ≡ suc_ℤ a *ℤ (b *ℤ k)
assoc_suc a b k h =
    let e = ap (λ x. x *ℤ k) (suc_ℤ-*ℤ a b) ∙ add_times (a *ℤ b) b k in
    let f = suc_ℤ-*ℤ a (b *ℤ k) in
    omega (arith, ints)

assoc_pred : (a b k : ℤ) → (a *ℤ b) *ℤ k ≡ a *ℤ (b *ℤ k) → (pred_ℤ a *ℤ b) *ℤ k ≡ pred_ℤ a *ℤ (b *ℤ k)
assoc_pred a b k h =
    let g : (a *ℤ b) ≡ (pred_ℤ a *ℤ b) +ℤ b = let p = pred_ℤ-*ℤ a b in omega (arith, ints) in
    let e = ap (λ x. x *ℤ k) g ∙ add_times (pred_ℤ a *ℤ b) b k in
    let f = pred_ℤ-*ℤ a (b *ℤ k) in
    omega (arith, ints)

zero_times_times : (b k : ℤ) → (pos 0 *ℤ b) *ℤ k ≡ pos 0 *ℤ (b *ℤ k)
zero_times_times b k = ap (λ x. x *ℤ k) (zero-*ℤ b) ∙ zero-*ℤ k ∙ sym (zero-*ℤ (b *ℤ k))

pub times_times : (a b k : ℤ) → (a *ℤ b) *ℤ k ≡ a *ℤ (b *ℤ k)
times_times (pos zero) b k = zero_times_times b k
times_times (pos (suc n)) b k = assoc_suc (pos n) b k (times_times (pos n) b k)
times_times (negsuc zero) b k = assoc_pred (pos zero) b k (zero_times_times b k)
times_times (negsuc (suc n)) b k = assoc_pred (negsuc n) b k (times_times (negsuc n) b k)

pub times_not_below : (a b : ℤ) → pos 0 ≤ℤ a → pos 0 ≤ℤ b → pos 0 ≤ℤ (a *ℤ b)
times_not_below a b h k = grind (arith, ints)
