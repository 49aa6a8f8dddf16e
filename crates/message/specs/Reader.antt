-- A reading takes the bytes that are left, and gives a value with the bytes left behind it, or the number of a refusal. SPEC 8.2: "the first fault met counts":
-- one reading after another is refused by the first that is.
use Rattle.std.specs.Prelude.{ℕ, Bool, cond, List, leb, length, take, drop}

pub data Outcome (A : Type 0) : Type 0 where
  read : A → List ℕ → Outcome A
  refused : ℕ → Outcome A

abbrev pub Reader : Type 0 → Type 0
Reader A = List ℕ → Outcome A

abbrev pub after : {A B : Type 0} → Outcome A → (A → Reader B) → Outcome B
after (read a rest) f = f a rest
after (refused k) f = refused k

abbrev pub ◌>>=◌ : {A B : Type 0} → Reader A → (A → Reader B) → Reader B
◌>>=◌ r f = λ m. after (r m) f

abbrev pub ◌>>◌ : {A B : Type 0} → Reader A → Reader B → Reader B
◌>>◌ r s = λ m. after (r m) (λ _. s)

abbrev pub give : {A : Type 0} → A → Reader A
give a = λ m. read a m

-- the refusal k unless the test holds
abbrev pub judge : ℕ → Bool → Reader (Unit {0})
judge k test = λ m. cond test (read tt m) (refused k)

-- SPEC 7.7: "the message ends inside a range"
unfoldable pub read_bytes : ℕ → Reader (List ℕ)
read_bytes n = λ m. cond (leb n (length m)) (read (take n m) (drop n m)) (refused 7)
