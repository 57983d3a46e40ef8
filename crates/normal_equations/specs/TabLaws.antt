-- The laws of a list given by a rule for each of its places. Assumes nothing.
use Rattle.std.specs.Prelude.{ℕ, zero, suc, ◌<◌, ◌≡◌, refl, List, [], ◌∷◌, ◌++◌, length, get_or}
use Rattle.std.proofs.Common.{arith, sym, ◌∙◌, length-append, ext_get_or, below_more}
use Rattle.std.proofs.Math.ListN.{get_or-append}
use Rattle.std.proofs.lemmas.List.{get_or_at}
use Rattle.normal_equations.specs.Tab.{tab}

pub length_tab : {A : Type 0} (n : ℕ) (f : ℕ → A) → length (tab n f) ≡ n
unfolding tab
length_tab zero f = refl
length_tab (suc n) f = omega (arith, length-append (tab n f) (f n ∷ []), length_tab n f)

pub get_d_tab : {A : Type 0} (n : ℕ) (f : ℕ → A) (z : A) (k : ℕ) → k < n → get_or (tab n f) k z ≡ f k
unfolding tab
get_d_tab zero f z k h = absurd (omega arith)
get_d_tab (suc n) f z k h =
    below_more (λ x. get_or (tab n f ++ (f n ∷ [])) x z ≡ f x) n
    (λ x l. get_or-append (tab n f) (f n ∷ []) z x (omega (arith, length_tab n f)) ∙ get_d_tab n f z x l)
    (get_or_at (tab n f) (f n) [] z n (length_tab n f))
    k (omega arith)

-- two rules that agree at every place give one list
pub tab_same : {A : Type 0} (n : ℕ) (f g : ℕ → A) → ((k : ℕ) → k < n → f k ≡ g k) → tab n f ≡ tab n g
unfolding tab
tab_same zero f g h = refl
tab_same (suc n) f g h = rw (tab_same n f g (λ k l. h k (omega arith)), h n (omega arith))

-- a list of n things is given by its places
pub tab_of : {A : Type 0} (n : ℕ) (f : ℕ → A) (z : A) (l : List A) → length l ≡ n → ((k : ℕ) → k < n → get_or l k z ≡ f k) → l ≡ tab n f
tab_of n f z l e h = ext_get_or z l (tab n f) (e ∙ sym (length_tab n f)) (λ k b. h k (omega arith) ∙ sym (get_d_tab n f z k (omega arith)))
