-- Texts written one behind the other.
use Prim.Native.Nat.{ℕ, zero, suc, ◌+◌, ◌-◌, ◌*◌, ◌/◌, ◌%◌, ◌^◌, ◌<◌, ◌≤◌}
use mathlib.Core.Path.{◌≡◌, refl, sym, ap, ◌∙◌}
use mathlib.Core.List.{List, [], ◌∷◌, ◌++◌, append-nil, append_assoc}
use native.Mathlib.Omega.{arith}
use native.Mathlib.Nat.{div-lt_iff_lt-mul, pow-suc}
use native.Mathlib.Numerals.{add-one}
use lib.Dec.{ltb, lit<}
use lib.ListN.{length, take, drop, set, get_or, length-append, length-drop, drop_of_length-le}
use lib.Seq.{drop-cons, drop-drop, take-suc, set_at, append_snoc, take_all, take-append_seam, drop-append_seam}
use borrow.Author.Tests.{lt-ltb, le-ltb}
use Rattle.message.specs.Bound.{prefix}
use Rattle.message.specs.Message.{Payload, range}
use Rattle.message.specs.Code.{bound_of}
use Rattle.message.proofs.Exact.{by_test}
use Rattle.message.specs.declared.Bound as Code
use Rattle.text.specs.Text.{digit, space, newline, dash, decimal_up_to, decimal, hex, time_field, prefix_field, mode_field, payload_field, line, put}
use Rattle.text.specs.Private.{spaced, payload_fields}

pub length-put : (t out : List ℕ) → length t ≤ length out → length (put t out) ≡ length out
unfolding put
length-put t out h = length-append t (drop (length t) out) ∙ rw (length-drop (length t) out) (omega arith)

-- what is put begins the buffer
pub put_front : (t out : List ℕ) (n : ℕ) → n ≡ length t → (take n (put t out) ≡ t) × (drop n (put t out) ≡ drop n out)
unfolding put
put_front t out n e = rw e (take-append_seam t (drop (length t) out), drop-append_seam t (drop (length t) out))

pub put-none : (out : List ℕ) → put (hex []) out ≡ out
unfolding put hex
put-none out = refl

-- one code more, stored behind t
pub put_one : (t out o₁ : List ℕ) (n x : ℕ) → n ≡ length t → length t < length out → o₁ ≡ put t out → set o₁ n x ≡ put (t ++ (x ∷ [])) out
unfolding put
put_one t out o₁ n x e h p =
    rw (e, p, drop-cons out (length t) 0 h)
    (set_at t (get_or out (length t) 0) (drop (suc (length t)) out) x (length t) refl
    ∙ sym (append_snoc t x (drop (suc (length t)) out))
    ∙ ap (λ (k : ℕ). (t ++ (x ∷ [])) ++ drop k out) (sym (length-append t (x ∷ []) ∙ add-one (length t))))

-- the first code
pub put-first : (out : List ℕ) (x : ℕ) → 0 < length out → set out 0 x ≡ put (x ∷ []) out
unfolding put
put-first out x h = put_one [] out out 0 x refl h refl

-- what `&mut out[n..]` holds
abbrev pub rest : ℕ → List ℕ → List ℕ
rest n out = take (length out - n) (drop n out)

-- `out` when that part holds `last`
abbrev pub joined : ℕ → List ℕ → List ℕ → List ℕ
joined n out last = take n out ++ (last ++ drop (length out - n) (drop n out))

-- s is put into the rest of o₁ behind t
pub put-behind : (t s out o₁ last : List ℕ) (n : ℕ) → n ≡ length t → length t ≤ length out → o₁ ≡ put t out → last ≡ put s (rest n o₁)
    → joined n o₁ last ≡ put (t ++ s) out
unfolding put
put-behind t s out o₁ last n e h p q =
    let front = put_front t out n e in
    let left : length (drop n o₁) ≤ length o₁ - n = rw (length-drop n o₁) (omega arith) in
    let none : drop (length o₁ - n) (drop n o₁) ≡ [] = drop_of_length-le (drop n o₁) left in
    let mid : rest n o₁ ≡ drop (length t) out = take_all (length o₁ - n) (drop n o₁) left ∙ ap (drop n) p ∙ front.1 ∙ ap (λ (k : ℕ). drop k out) e in
    let part : last ≡ s ++ drop (length s) (drop (length t) out) = q ∙ ap (λ (l : List ℕ). s ++ drop (length s) l) mid in
    let first : take n o₁ ≡ t = ap (take n) p ∙ front.0 in
    rw (first, none, part, append-nil)
    (sym (append_assoc t s (drop (length s) (drop (length t) out)))
    ∙ ap (λ (l : List ℕ). (t ++ s) ++ l) (drop-drop (length s) (length t) out ∙ ap (λ (k : ℕ). drop k out) (sym (length-append t s))))

-- the room that a part has
pub length_part : (o : List ℕ) (n : ℕ) → length (rest n o) ≡ length o - n
length_part o n = ap length (take_all (length o - n) (drop n o) (rw (length-drop n o) (omega arith))) ∙ length-drop n o

-- ---- hex

pub length-hex : (s : List ℕ) → length (hex s) ≡ length s * 2
unfolding hex
length-hex [] = refl
length-hex (b ∷ s) = omega (arith, length-hex s)

hex-append : (a b : List ℕ) → hex (a ++ b) ≡ hex a ++ hex b
unfolding hex
hex-append [] b = refl
hex-append (x ∷ a) b = ap (λ (l : List ℕ). digit (x / 16) ∷ digit (x % 16) ∷ l) (hex-append a b)

hex-one : (t : List ℕ) (b : ℕ) → t ++ hex (b ∷ []) ≡ (t ++ (digit (b / 16) ∷ [])) ++ (digit (b % 16) ∷ [])
unfolding hex
hex-one t b = sym (append_assoc t (digit (b / 16) ∷ []) (digit (b % 16) ∷ []))

hex-more : (s : List ℕ) (i : ℕ) → i < length s → hex (take (i + 1) s) ≡ (hex (take i s) ++ (digit (get_or s i 0 / 16) ∷ [])) ++ (digit (get_or s i 0 % 16) ∷ [])
hex-more s i h = rw (add-one i, take-suc s i 0 h) (hex-append (take i s) (get_or s i 0 ∷ []) ∙ hex-one (hex (take i s)) (get_or s i 0))

-- one byte more of s as two digits
pub hex_step : (s out o₁ : List ℕ) (i x y : ℕ) → i < length s → length s * 2 ≤ length out → o₁ ≡ put (hex (take i s)) out → length (take i s) ≡ i
    → x ≡ digit (get_or s i 0 / 16) → y ≡ digit (get_or s i 0 % 16) → set (set o₁ (i * 2) x) (i * 2 + 1) y ≡ put (hex (take (i + 1) s)) out
hex_step s out o₁ i x y h room p l ex ey =
    let size : length (hex (take i s)) ≡ i * 2 = length-hex (take i s) ∙ ap (λ (k : ℕ). k * 2) l in
    let one = put_one (hex (take i s)) out o₁ (i * 2) x (sym size) (omega arith) p in
    let size₂ : length (hex (take i s) ++ (x ∷ [])) ≡ i * 2 + 1 = length-append (hex (take i s)) (x ∷ []) ∙ ap (λ (k : ℕ). k + 1) size in
    put_one (hex (take i s) ++ (x ∷ [])) out (set o₁ (i * 2) x) (i * 2 + 1) y (sym size₂) (omega arith) one
    ∙ ap (λ (t : List ℕ). put t out) (rw (ex, ey) (sym (hex-more s i h)))

-- ---- decimal

-- one digit more is not needed
enough : (f n : ℕ) → n < 10 ^ suc f → decimal_up_to (suc (suc f)) n ≡ decimal_up_to (suc f) n
unfolding decimal_up_to
enough zero n h = let small : n < 10 = omega arith in rw (lt-ltb n 10 small) refl
enough (suc f) n h =
    by_test (ltb n 10)
    (λ e. rw e refl)
    (λ e.
    let below : n / 10 < 10 ^ suc f = (div-lt_iff_lt-mul {k = 10} {x = n} {y = 10 ^ suc f} (lit< tt)).1 (rw pow-suc at h) in
    rw e (ap (λ (t : List ℕ). t ++ (digit (n % 10) ∷ [])) (enough f (n / 10) below)))

pub decimal-small : (n : ℕ) → n < 10 → decimal n ≡ digit n ∷ []
unfolding decimal decimal_up_to
decimal-small n h = rw (lt-ltb n 10 h) refl

-- the last digit, and those before it
pub decimal-more : (n : ℕ) → 10 ≤ n → n < 2 ^ 64 → decimal n ≡ decimal (n / 10) ++ (digit (n % 10) ∷ [])
unfolding decimal decimal_up_to
decimal-more n h few =
    let below : n / 10 < 10 ^ 19 = omega arith in
    rw (le-ltb n 10 h) (ap (λ (t : List ℕ). t ++ (digit (n % 10) ∷ [])) (sym (enough 18 (n / 10) below)))

-- ---- fields

-- a text and one code more
pub put-end : (t out o₁ : List ℕ) (k x : ℕ) → k ≡ length t → length t < length out → o₁ ≡ put t out → (k + 1 ≡ length (t ++ (x ∷ []))) × (set o₁ k x ≡ put (t ++ (x ∷ [])) out)
put-end t out o₁ k x e h p = (sym (length-append t (x ∷ []) ∙ ap (λ (n : ℕ). n + 1) (sym e)), put_one t out o₁ k x e h p)

-- a word, and a text put behind it
pub word_put : (w t out o₁ last : List ℕ) (k r : ℕ) → k ≡ length w → length w ≤ length out → o₁ ≡ put w out → r ≡ length t
    → last ≡ put t (rest k o₁) → (k + r ≡ length (w ++ t)) × (joined k o₁ last ≡ put (w ++ t) out)
word_put w t out o₁ last k r e h p f q = (omega (arith, length-append w t), put-behind w t out o₁ last k e h p q)

-- `fingerprint`, `ids` and `refused`, each with a space
abbrev pub fingerprint_word : List ℕ
fingerprint_word = 0x66 ∷ 0x69 ∷ 0x6E ∷ 0x67 ∷ 0x65 ∷ 0x72 ∷ 0x70 ∷ 0x72 ∷ 0x69 ∷ 0x6E ∷ 0x74 ∷ space ∷ []

abbrev pub ids_word : List ℕ
ids_word = 0x69 ∷ 0x64 ∷ 0x73 ∷ space ∷ []

abbrev pub refused_word : List ℕ
refused_word = 0x72 ∷ 0x65 ∷ 0x66 ∷ 0x75 ∷ 0x73 ∷ 0x65 ∷ 0x64 ∷ space ∷ []

at_most : (n : ℕ) (l : List ℕ) → length (take n l) ≤ n
at_most zero l = omega arith
at_most (suc n) [] = omega arith
at_most (suc n) (x ∷ l) = omega (arith, at_most n l)

pub part_short : (n : ℕ) (l f : List ℕ) → f ≡ take n l → length f ≤ n
part_short n l f e = rw e (at_most n l)

pub no-prefix : (p : List ℕ) → length p ≡ 0 → spaced (prefix_field p) ≡ dash ∷ space ∷ []
unfolding spaced prefix_field
no-prefix [] e = refl
no-prefix (b ∷ p) e = absurd (omega arith)

pub some_prefix : (p : List ℕ) → (length p ≡ 0 → ⊥) → spaced (prefix_field p) ≡ hex p ++ (space ∷ [])
unfolding spaced prefix_field
some_prefix [] e = absurd (e refl)
some_prefix (b ∷ p) e = refl

-- ---- lines

shorter : (n : ℕ) (p : List ℕ) → length (take n p) ≤ length p
shorter zero p = omega arith
shorter (suc n) [] = omega arith
shorter (suc n) (b ∷ p) = omega (arith, shorter n p)

pub prefix_short : (b : Code.Bound) (p f : List ℕ) → f ≡ prefix (bound_of b p) → length f ≤ length p
prefix_short Code.Bound.Infinity p f e = rw e (omega arith)
prefix_short (Code.Bound.At t n) p f e = rw e (shorter n p)

time_any : (b : Code.Bound) (p : List ℕ) → time_field (bound_of b p) ≡ time_field (bound_of b [])
unfolding time_field
time_any Code.Bound.Infinity p = refl
time_any (Code.Bound.At t n) p = refl

fields : (t p q : List ℕ) → (t ++ (space ∷ [])) ++ (p ++ (space ∷ [])) ++ q ≡ t ++ (space ∷ (p ++ (space ∷ q)))
fields t p q = simp append_assoc

pub line_is : (b : Code.Bound) (p : List ℕ) (y : Payload)
    → (spaced (time_field (bound_of b [])) ++ spaced (prefix_field (prefix (bound_of b p)))) ++ payload_fields y ≡ line (range (bound_of b p) y)
unfolding line spaced payload_fields
line_is b p y = rw (← time_any b p) (fields (time_field (bound_of b p)) (prefix_field (prefix (bound_of b p))) (mode_field y ++ (space ∷ (payload_field y ++ (newline ∷ [])))))

-- three texts, each put into the rest behind those before it
pub three-put : (t p q out o₁ l₂ l₃ : List ℕ) (a b c : ℕ) → a ≡ length t → b ≡ length p → c ≡ length q → a + b ≤ length out → o₁ ≡ put t out
    → l₂ ≡ put p (rest a o₁) → l₃ ≡ put q (rest (a + b) (joined a o₁ l₂))
    → (a + b + c ≡ length ((t ++ p) ++ q)) × (joined (a + b) (joined a o₁ l₂) l₃ ≡ put ((t ++ p) ++ q) out)
three-put t p q out o₁ l₂ l₃ a b c ea eb ec h e f g =
    let two = length-append t p in
    let all = length-append (t ++ p) q in
    let second = put-behind t p out o₁ l₂ a ea (omega arith) e f in
    (omega arith, put-behind (t ++ p) q out _ l₃ (a + b) (omega arith) (omega arith) second g)
