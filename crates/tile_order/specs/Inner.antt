-- What the functions of the search keep between them. Inner words of their contracts. Definitions only.
use Rattle.std.specs.Prelude.{ℕ, ◌+◌, ◌-◌, ◌*◌, ◌^◌, ◌<◌, ◌≤◌, ◌≡◌, true, false, List, length, get_or}
use Rattle.tile_order.specs.Search.{seen}

-- y is the least tile not below i that is not in the first k places of p, or n where there is none
pub record Link (n : ℕ) (p : List ℕ) (k i y : ℕ) : Type 0 where
  pub above : i ≤ y
  pub top : y ≤ n
  pub free : y < n → seen p k y ≡ false
  pub between : (z : ℕ) → i ≤ z → z < y → seen p k z ≡ true

-- a place that has a link: 0, and the one after each tile that is left
pub record Stands (n : ℕ) (p : List ℕ) (k i : ℕ) : Type 0 where
  pub within : i ≤ n
  pub from : 0 < i → seen p k (i - 1) ≡ false

pub record Links (n : ℕ) (p : List ℕ) (k : ℕ) (a : List ℕ) : Type 0 where
  pub long : length a ≡ 11
  pub link : (i : ℕ) → Stands n p k i → Link n p k i (get_or a i 0)

-- what a call of the search needs: the numbers fit, places and tiles are within the table, the places to come hold 0, and a links the tiles that are left
pub record Ready (n : ℕ) (t : List ℕ) (l j : ℕ) (p : List ℕ) (c : ℕ) (a : List ℕ) : Type 0 where
  pub few : n ≤ 10
  pub size : length t ≡ n * n
  pub rest : j + 1 + l ≡ n
  pub long : length p ≡ 10
  pub last : get_or p j 0 < n
  pub room : c + l * 2 ^ 32 < 2 ^ 64
  pub blank : (i : ℕ) → j < i → get_or p i 0 ≡ 0
  pub links : Links n p (j + 1) a
