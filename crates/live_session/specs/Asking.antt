-- Whoever waits for what comes from outside asks for it at least once.
-- "The activities of a session" in docs/rules.md.
use Rattle.std.specs.Prelude.{◌≡◌, ◌≤◌, ◌⊎◌, ℕ, Bool, true, List, length}
use Rattle.sl_base.specs.Counting.{Rose}

-- something came, or the end was reached, or the count of idle answers or of failures rose
abbrev pub HasAsked : {A : Type 0} → List A → Bool → ℕ → ℕ → ℕ → ℕ → Type 0
HasAsked came ended idles idles_now faults faults_now = (1 ≤ length came)
    ⊎ ((ended ≡ true) ⊎ (Rose idles idles_now ⊎ Rose faults faults_now))
