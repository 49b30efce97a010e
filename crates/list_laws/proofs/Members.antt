-- What holds of all members of a list.
use Rattle.std.proofs.Common.{◌≡◌, ℕ, List, [], ◌∷◌, ◌++◌, slice_get, Some, subst, map, ◌≢◌, ◌∙◌, zero, suc, ◌<◌, length, take, set, get_or, Option, None, append-nil, refl, sym, ap, arith}
use Rattle.std.proofs.lemmas.List.Elements.{All-nil, All-cons, All-head, All-tail, All-append}
use Rattle.std.proofs.lemmas.{Option.slice_get_within, Option.get_or_from_slice_get, Option.slice_get-map, List.get_or-map, List.take_all, List.drop_all}
use Rattle.std.specs.List.{flat_map, All, Contains, refill}
use Rattle.std.specs.Option.{option_map}
use Rattle.list_laws.proofs.Options.{one_some}

-- what holds of all members holds of the one at a place
pub each : {X : Type 0} (P : X → Type 0) (xs : List X) (i : ℕ) (x : X) → All P xs → slice_get xs i ≡ Some x → P x
each P xs i x all e = subst P (get_or_from_slice_get xs i x x e) (all i x (slice_get_within xs i x e))

-- what holds of all members of two lists holds of those of the first
pub all_front : {X : Type 0} (P : X → Type 0) (xs ys : List X) → All P (xs ++ ys) → All P xs
all_front P [] ys a = All-nil P
all_front P (x ∷ xs) ys a = All-cons P x xs (All-head P x (xs ++ ys) a) (all_front P xs ys (All-tail P x (xs ++ ys) a))

-- and of those of the second
pub all_back : {X : Type 0} (P : X → Type 0) (xs ys : List X) → All P (xs ++ ys) → All P ys
all_back P [] ys a = a
all_back P (x ∷ xs) ys a = all_back P xs ys (All-tail P x (xs ++ ys) a)

-- what holds of all that a function gives
pub all_flat_of : {Y A : Type 0} (Q : A → Type 0) (f : Y → List A) (ys : List Y) → All (λ y. All Q (f y)) ys → All Q (flat_map f ys)
all_flat_of Q f [] all = All-nil Q
all_flat_of Q f (y ∷ ys) all = All-append Q (f y) (flat_map f ys) (All-head (λ y. All Q (f y)) y ys all) (all_flat_of Q f ys (All-tail (λ y. All Q (f y)) y ys all))

-- what holds of all that a map gives holds of its members
pub all_of_map : {X Y : Type 0} (P : Y → Type 0) (g : X → Y) (xs : List X) → All P (map g xs) → All (λ x. P (g x)) xs
all_of_map P g [] all = All-nil (λ x. P (g x))
all_of_map P g (x ∷ xs) all = All-cons (λ y. P (g y)) x xs (All-head P (g x) (map g xs) all) (all_of_map P g xs (All-tail P (g x) (map g xs) all))

-- within a list some member stands
pub member_at : {X : Type 0} (xs : List X) (k : ℕ) → k < length xs → (x : X) × (slice_get xs k ≡ Some x)
member_at [] k within = absurd (omega (arith, within))
member_at (x ∷ xs) zero within = (x, refl)
member_at (x ∷ xs) (suc k) within = member_at xs k (omega (arith, within))

-- of two lists of one length, where the first has a member the second has one
pub beside : {X Y : Type 0} (xs : List X) (ys : List Y) (k : ℕ) (x : X) → length ys ≡ length xs → slice_get xs k ≡ Some x → (y : Y) × (slice_get ys k ≡ Some y)
beside xs ys k x long at = member_at ys k (omega (arith, long, slice_get_within xs k x at))

-- a member of a list stands in it
pub listed : {X : Type 0} (xs : List X) (k : ℕ) (x : X) → slice_get xs k ≡ Some x → Contains xs x
listed xs k x at = (k, slice_get_within xs k x at, get_or_from_slice_get xs k x x at)

-- what a list that is made member by member holds
pub map_at : {X Y : Type 0} (v : X → Y) (xs : List X) (k : ℕ) (x : X) (e : Y) → slice_get xs k ≡ Some x → get_or (map v xs) k e ≡ v x
map_at v xs k x e is = get_or-map v xs k x e (slice_get_within xs k x is) ∙ ap v (get_or_from_slice_get xs k x x is)

-- what stands in a mapped list comes from what stands there
pub mapped_at : {X Y : Type 0} (f : X → Y) (xs : List X) (i : ℕ) (y : Y) → slice_get (map f xs) i ≡ Some y → (x : X) × (slice_get xs i ≡ Some x) × (f x ≡ y)
mapped_at {X} {Y} f xs i y e = of_option (slice_get xs i) refl (sym (slice_get-map f xs i) ∙ e) where
  of_option : (o : Option X) → slice_get xs i ≡ o → option_map f o ≡ Some y → (x : X) × (slice_get xs i ≡ Some x) × (f x ≡ y)
  of_option None here e = cc
  of_option (Some x) here e = (x, here, cc)

-- what holds of each member and of one more holds of each once it is added
pub each_push : {X : Type 0} (P : X → Type 0) (xs : List X) (x : X) → ((i : ℕ) (y : X) → slice_get xs i ≡ Some y → P y) → P x → (i : ℕ) (y : X) → slice_get (xs ++ x ∷ []) i ≡ Some y → P y
each_push P [] x each last zero y at = subst P (one_some x y at) last
each_push P [] x each last (suc i) y at = cc
each_push P (w ∷ xs) x each last zero y at = each zero y at
each_push P (w ∷ xs) x each last (suc i) y at = each_push P xs x (λ j z there. each (suc j) z there) last i y at

-- the member that was set
pub set_same : {X : Type 0} (xs : List X) (k : ℕ) (x : X) → k < length xs → slice_get (set xs k x) k ≡ Some x
set_same [] k x within = absurd (omega (arith, within))
set_same (w ∷ xs) zero x within = refl
set_same (w ∷ xs) (suc k) x within = set_same xs k x (omega (arith, within))

-- the other members
pub set_other : {X : Type 0} (xs : List X) (i k : ℕ) (x : X) → k ≢ i → slice_get (set xs i x) k ≡ slice_get xs k
set_other [] i k x away = refl
set_other (w ∷ xs) zero zero x away = absurd (away refl)
set_other (w ∷ xs) zero (suc k) x away = refl
set_other (w ∷ xs) (suc i) zero x away = refl
set_other (w ∷ xs) (suc i) (suc k) x away = set_other xs i k x (λ same. away (ap suc same))

-- a list whose loan ends has what stands in it then
pub refill_whole : {X : Type 0} (xs now : List X) → length now ≡ length xs → refill (length xs) xs now ≡ now
refill_whole xs now long =
    ap (λ rest. take (length xs) (now ++ rest)) (drop_all (length now) xs (omega (arith, long)))
    ∙ (ap (λ list. take (length xs) list) (append-nil now) ∙ take_all (length xs) now (omega (arith, long)))
