-- How often values come, and what that shows of two components.
use Rattle.std.specs.Prelude.{ℕ, ◌≡◌, ◌≢◌, ◌<◌, ◌≤◌, ◌==◌, ◌+◌, ◌*◌, List, length, get_or, count_by}
use Rattle.fx_designs.specs.Galois.{add, mul}

-- entry y of the counts, of which there are n, is how often y comes
pub record AreValueCounts (n : ℕ) (values counts : List ℕ) : Type 0 where
  pub len : length counts ≡ n
  pub each : (y : ℕ) → y < n → get_or counts y 0 ≡ count_by (λ z. z == y) values

-- two values a and b, which are counted at 9 a + b, come together only where a is c b + k
pub record IsLine (q : ℕ) (pairs : List ℕ) (c k : ℕ) : Type 0 where
  pub none : (a b : ℕ) → a < q → b < q → a ≢ add q k (mul q c b) → get_or pairs (9 * a + b) 0 ≡ 0

-- some c and k of which that holds, where c is not 0
pub record HasLine (q : ℕ) (pairs : List ℕ) : Type 0 where
  pub factor : ℕ
  pub constant : ℕ
  pub nonzero : 1 ≤ factor
  pub code : factor < q
  pub value : constant < q
  pub line : IsLine q pairs factor constant

-- each two values come together as often as is expected of them
pub record AreExpected (q runs : ℕ) (left right pairs : List ℕ) : Type 0 where
  pub each : (a b : ℕ) → a < q → b < q → runs * get_or pairs (9 * a + b) 0 ≡ get_or left a 0 * get_or right b 0
