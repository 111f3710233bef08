-- An element's values, by its number.
use Rattle.std.proofs.Common.{◌≡◌, ℕ, zero, suc, ◌+◌, ◌-◌, ◌<◌, ◌≤◌, List, [], length, get_or, set, pos, sym, refl, ap, ◌∙◌, add-one, arith}
use Rattle.std.proofs.lemmas.List.{get_or-map, get_or_past, length-map, map-set}
use Rattle.world.specs.Worlds.{World, Element, element_of, element_at, world_of, no_element}
use Rattle.world.specs.Truth.{reading}
use Rattle.world.specs.Inner.{values_at, env_of}
use Rattle.world.specs.declared.parts.Element.{Element as Given}

-- what stands where no element is
abbrev pub no_given : Given
no_given = record { class = 0; values = record { ref_ptr = (0, 0); now = [] } }

pub length_world : (log : List Given) → length (world_of log) ≡ length log
length_world log = length-map log element_of

pub world_at : (log : List Given) (i : ℕ) (d : Given) → i < length log → get_or (world_of log) i no_element ≡ element_of (get_or log i d)
world_at log i d l = get_or-map element_of log i d no_element l

pub values_in : (log : List Given) (k : ℕ) (e : Given) → 1 ≤ k → k ≤ length log → e ≡ get_or log (k - 1) e → values_at (world_of log) k ≡ e.values.now
unfolding values_at
values_in log zero e low high is = absurd (omega arith)
values_in log (suc j) e low high is =
    let p : suc j - 1 ≡ j = omega arith in
    ap (λ (x : Element). x.values) (world_at log j e (omega arith)) ∙ ap (λ (x : Given). x.values.now) (sym (rw p at is))

pub values_past : (log : List Given) (k : ℕ) → length log < k → values_at (world_of log) k ≡ []
unfolding values_at
values_past log zero l = refl
values_past log (suc j) l =
    let e : length (world_of log) ≤ j = omega (arith, length_world log) in
    ap (λ (x : Element). x.values) (get_or_past (world_of log) j no_element e)

-- the element with number i + 1 goes into a slot
pub slot_set : (world : World) (slots : List ℕ) (d i : ℕ) → env_of world (set slots d (i + 1)) ≡ set (env_of world slots) d (get_or world i no_element).values
unfolding values_at
slot_set world slots d i =
    let e : i + 1 ≡ suc i = add-one i in
    map-set (values_at world) slots d (i + 1) ∙ ap (λ k. set (env_of world slots) d (values_at world k)) e

-- what a term reads
pub slot_reading : (world : World) (slots : List ℕ) (s a : ℕ) → s < length slots → get_or (values_at world (get_or slots s 0)) a (pos 0) ≡ reading (env_of world slots) s a
slot_reading world slots s a l = ap (λ vs. get_or vs a (pos 0)) (sym (get_or-map (values_at world) slots s 0 [] l))

pub element_next : (log : List Given) (i : ℕ) (d : Given) → i < length log → element_at (world_of log) (i + 1) ≡ element_of (get_or log i d)
element_next log i d l = let e : i + 1 - 1 ≡ i = omega arith in ap (λ k. get_or (world_of log) k no_element) e ∙ world_at log i d l
