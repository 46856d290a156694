-- Halving.
use Rattle.std.proofs.Common.{◌≡◌, ◌≢◌, ℕ, zero, suc, ◌+◌, ◌-◌, ◌/◌, ◌<◌, ◌≤◌, inl, inr}
use Rattle.std.proofs.Common.{Bool, true, false, IfOk, IfErr, Result, Ok, Err, nat_le, List, []}
use Rattle.std.proofs.Common.{◌∷◌, refl, sym, ◌∙◌, arith}
use Rattle.std.proofs.Common.{mul-le-mul_left, ap}
use Rattle.std.proofs.lemmas.Bool.Decides.{nat_tests}
use Rattle.std.proofs.lemmas.Bool.{false≢true}
use Rattle.pm_coder.specs.Intervals.{Choice, choice}
use Rattle.pm_coder.specs.Coders.{Coding, May, made, Can, Makes, Part}
use Rattle.pm_coder.specs.Uniform.{upper_share, halvings, uniform_choices}
use Rattle.pm_coder.specs.RoundTrips.{UniformsPart}
use Rattle.pm_coder.proofs.IntervalLaws.{at_least}
use Rattle.pm_coder.proofs.CoderLaws.{makes-none, makes-more, can-first, can-rest, writer-can}
use Rattle.pm_coder.proofs.CoderLaws.{made-writing, one_choice}

pub le_yes : (a b : ℕ) → a ≤ b → nat_le a b ≡ true
le_yes a b l = grind (arith, nat_tests)

pub le_no : (a b : ℕ) → b < a → nat_le a b ≡ false
le_no a b l = grind (arith, nat_tests)

-- One halving.
halvings-one : (turns bound n : ℕ) → bound ≤ 1 → halvings turns bound n ≡ []
unfolding halvings
halvings-one zero bound n l = refl
halvings-one (suc turns) bound n l = rw (le_yes bound 1 l) refl

halvings-upper : (turns t bound n : ℕ) → turns ≡ t + 1 → 1 < bound → bound / 2 ≤ n
    → halvings turns bound n
    ≡ choice true (upper_share bound) ∷ halvings t (bound - bound / 2) (n - bound / 2)
unfolding halvings
halvings-upper zero t bound n e w l = absurd (omega arith)
halvings-upper (suc turns) t bound n e w l =
    let s : t ≡ turns = omega arith in
    rw (le_no bound 1 w, le_yes (bound / 2) n l, s) refl

halvings-lower : (turns t bound n : ℕ) → turns ≡ t + 1 → 1 < bound → n < bound / 2
    → halvings turns bound n ≡ choice false (upper_share bound) ∷ halvings t (bound / 2) n
unfolding halvings
halvings-lower zero t bound n e w l = absurd (omega arith)
halvings-lower (suc turns) t bound n e w l =
    let s : t ≡ turns = omega arith in
    rw (le_no bound 1 w, le_no (bound / 2) n l, s) refl

-- More turns than the bound change nothing.
halvings-enough : (d e bound n : ℕ) → bound ≤ d → bound ≤ e
    → halvings d bound n ≡ halvings e bound n
halvings-enough zero e bound n bd be =
    halvings-one zero bound n (omega arith) ∙ sym (halvings-one e bound n (omega arith))
halvings-enough (suc d) e bound n bd be =
    elim (at_least bound 1) [
      | inl one ↦ halvings-one (suc d) bound n one ∙ sym (halvings-one e bound n one)
      | inr more ↦
          elim (at_least (bound / 2) n) [
            | inl up ↦
                halvings-upper (suc d) d bound n (omega arith) more up
                ∙ ap (λ (cs : List Choice). choice true (upper_share bound) ∷ cs)
                (halvings-enough d (e - 1) (bound - bound / 2) (n - bound / 2) (omega arith)
                (omega arith))
                ∙ sym (halvings-upper e (e - 1) bound n (omega arith) more up)
            | inr down ↦
                halvings-lower (suc d) d bound n (omega arith) more down
                ∙ ap (λ (cs : List Choice). choice false (upper_share bound) ∷ cs)
                (halvings-enough d (e - 1) (bound / 2) n (omega arith) (omega arith))
                ∙ sym (halvings-lower e (e - 1) bound n (omega arith) more down)
          ]
    ]

-- The choices of a number, half by half.
pub uniform-one : (bound n : ℕ) → bound ≤ 1 → uniform_choices bound n ≡ []
unfolding uniform_choices
uniform-one bound n l = halvings-one bound bound n l

pub uniform-upper : (bound n : ℕ) → 1 < bound → bound / 2 ≤ n
    → uniform_choices bound n
    ≡ choice true (upper_share bound) ∷ uniform_choices (bound - bound / 2) (n - bound / 2)
unfolding uniform_choices
uniform-upper bound n w l =
    halvings-upper bound (bound - 1) bound n (omega arith) w l
    ∙ ap (λ (cs : List Choice). choice true (upper_share bound) ∷ cs)
    (halvings-enough (bound - 1) (bound - bound / 2) (bound - bound / 2) (n - bound / 2)
    (omega arith) (omega arith))

pub uniform-lower : (bound n : ℕ) → 1 < bound → n < bound / 2
    → uniform_choices bound n ≡ choice false (upper_share bound) ∷ uniform_choices (bound / 2) n
unfolding uniform_choices
uniform-lower bound n w l =
    halvings-lower bound (bound - 1) bound n (omega arith) w l
    ∙ ap (λ (cs : List Choice). choice false (upper_share bound) ∷ cs)
    (halvings-enough (bound - 1) (bound / 2) (bound / 2) n (omega arith) (omega arith))

-- A share fits.
pub upper_share-fit : (bound : ℕ) → 1 < bound → upper_share bound < 65536
upper_share-fit bound w =
    elim (at_least 65536 (upper_share bound)) [
      | inl much ↦ absurd (omega (arith, mul-le-mul_left bound much))
      | inr few ↦ few
    ]

-- What a coder made of the halves it made of the whole.
pub upper-makes : (a mid new : Coding) (bound n : ℕ) → 1 < bound
    → May a (choice true (upper_share bound)) → mid ≡ made a (choice true (upper_share bound))
    → Makes mid (uniform_choices (bound - bound / 2) n) new
    → Makes a (uniform_choices bound (bound / 2 + n)) new
upper-makes a mid new bound n w may e m =
    let rest : (bound / 2 + n) - bound / 2 ≡ n = omega arith in
    rw (uniform-upper bound (bound / 2 + n) w (omega arith), rest)
    (makes-more a mid new _ (uniform_choices (bound - bound / 2) n) may
    (upper_share-fit bound w) e m)

pub lower-makes : (a mid new : Coding) (bound n : ℕ) → 1 < bound → n < bound / 2
    → May a (choice false (upper_share bound)) → mid ≡ made a (choice false (upper_share bound))
    → Makes mid (uniform_choices (bound / 2) n) new → Makes a (uniform_choices bound n) new
lower-makes a mid new bound n w l may e m =
    rw (uniform-lower bound n w l) (makes-more a mid new _ (uniform_choices (bound / 2) n) may
    (upper_share-fit bound w) e m)

pub one-makes : (a : Coding) (bound n : ℕ) → bound ≤ 1 → Makes a (uniform_choices bound n) a
one-makes a bound n l = rw (uniform-one bound n l) (makes-none a)

-- Where a half can't be made, no number below the bound can.
pub first-cut : (a : Coding) (bound : ℕ) → 1 < bound
    → ((bit : Bool) → ¬ May a (choice bit (upper_share bound)))
    → (n : ℕ) → ¬ Can a (uniform_choices bound n)
first-cut a bound w none n can =
    elim (at_least (bound / 2) n) [
      | inl up ↦
          let more : Can a (choice true (upper_share bound)
          ∷ uniform_choices (bound - bound / 2) (n - bound / 2)) =
          rw (uniform-upper bound n w up) at can in
          none true (can-first a _ _ more)
      | inr down ↦
          let more : Can a (choice false (upper_share bound) ∷ uniform_choices (bound / 2) n) =
          rw (uniform-lower bound n w down) at can in
          none false (can-first a _ _ more)
    ]

pub upper-cut : (a mid : Coding) (bound : ℕ) → 1 < bound
    → May a (choice true (upper_share bound)) → mid ≡ made a (choice true (upper_share bound))
    → ((n : ℕ) → n < bound - bound / 2 → ¬ Can mid (uniform_choices (bound - bound / 2) n))
    → (n : ℕ) → n < bound → ¬ Can a (uniform_choices bound n)
upper-cut a mid bound w may e none n l can =
    elim (at_least (bound / 2) n) [
      | inl up ↦
          let more : Can a (choice true (upper_share bound)
          ∷ uniform_choices (bound - bound / 2) (n - bound / 2)) =
          rw (uniform-upper bound n w up) at can in
          none (n - bound / 2) (omega arith) (rw e (can-rest a _ _ more))
      | inr down ↦
          let more : Can a (choice false (upper_share bound) ∷ uniform_choices (bound / 2) n) =
          rw (uniform-lower bound n w down) at can in
          elim (one_choice a false true (upper_share bound) (can-first a _ _ more) may) [
            | inl writes ↦
                none 0 (omega arith)
                (writer-can _ mid (rw e (made-writing a (choice true (upper_share bound)) writes)))
            | inr same ↦ absurd (false≢true same)
          ]
    ]

pub lower-cut : (a mid : Coding) (bound : ℕ) → 1 < bound
    → May a (choice false (upper_share bound)) → mid ≡ made a (choice false (upper_share bound))
    → ((n : ℕ) → n < bound / 2 → ¬ Can mid (uniform_choices (bound / 2) n))
    → (n : ℕ) → n < bound → ¬ Can a (uniform_choices bound n)
lower-cut a mid bound w may e none n l can =
    elim (at_least (bound / 2) n) [
      | inl up ↦
          let more : Can a (choice true (upper_share bound)
          ∷ uniform_choices (bound - bound / 2) (n - bound / 2)) =
          rw (uniform-upper bound n w up) at can in
          elim (one_choice a false true (upper_share bound) may (can-first a _ _ more)) [
            | inl writes ↦
                none 0 (omega arith)
                (writer-can _ mid (rw e (made-writing a (choice false (upper_share bound)) writes)))
            | inr same ↦ absurd (false≢true same)
          ]
      | inr down ↦
          let more : Can a (choice false (upper_share bound) ∷ uniform_choices (bound / 2) n) =
          rw (uniform-lower bound n w down) at can in
          none n down (rw e (can-rest a _ _ more))
    ]

-- Two numbers part.
part_on : (c : Choice) (xs ys : List Choice) → Part xs ys → Part (c ∷ xs) (c ∷ ys)
unfolding Part
part_on c xs ys p = (refl, inr (refl, p))

part_here : (x y : Bool) (share : ℕ) (xs ys : List Choice) → x ≢ y
    → Part (choice x share ∷ xs) (choice y share ∷ ys)
unfolding Part
part_here x y share xs ys other = (refl, inl other)

pub true≢false : true ≢ false
true≢false e = false≢true (sym e)

part_within : (turns bound n m : ℕ) → bound ≤ turns → n < bound → m < bound → n ≢ m
    → Part (uniform_choices bound n) (uniform_choices bound m)
part_within zero bound n m l ln lm other = absurd (omega arith)
part_within (suc turns) bound n m l ln lm other =
    let wide : 1 < bound = omega arith in
    let half = bound / 2 in
    elim (at_least half n) [
      | inl up ↦
          elim (at_least half m) [
            | inl up' ↦
                rw (uniform-upper bound n wide up, uniform-upper bound m wide up')
                (part_on _ _ _
                (part_within turns (bound - half) (n - half) (m - half) (omega arith)
                (omega arith) (omega arith) (omega arith)))
            | inr down' ↦
                rw (uniform-upper bound n wide up, uniform-lower bound m wide down')
                (part_here true false (upper_share bound) _ _ true≢false)
          ]
      | inr down ↦
          elim (at_least half m) [
            | inl up' ↦
                rw (uniform-lower bound n wide down, uniform-upper bound m wide up')
                (part_here false true (upper_share bound) _ _ false≢true)
            | inr down' ↦
                rw (uniform-lower bound n wide down, uniform-lower bound m wide down')
                (part_on _ _ _ (part_within turns half n m (omega arith) down down' other))
          ]
    ]

pub uniforms-part : UniformsPart
uniforms-part bound n m ln lm other = part_within bound bound n m (omega arith) ln lm other

-- Of what a call answers.
pub if_both : {T E : Type 0} {P Q R : T → Type 0} (r : Result T E) → ((x : T) → P x → Q x → R x)
    → IfOk r P → IfOk r Q → IfOk r R
if_both (Ok x) f p q = f x p q
if_both (Err e) f p q = q

pub if_err : {T E : Type 0} {P Q : E → Type 0} (r : Result T E) → ((e : E) → P e → Q e)
    → IfErr r P → IfErr r Q
if_err (Ok x) f p = p
if_err (Err e) f p = f e p

pub if_ok : {T E : Type 0} {P Q : T → Type 0} (r : Result T E) → ((x : T) → P x → Q x)
    → IfOk r P → IfOk r Q
if_ok (Ok x) f p = f x p
if_ok (Err e) f p = p
