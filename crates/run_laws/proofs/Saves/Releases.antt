-- A release takes away the pins that it names, and changes nothing else of any track.
use Rattle.std.proofs.Common.{◌≡◌, ℕ, zero, suc, Bool, true, false, not, List, [], ◌∷◌, Option, Some, None, slice_get, option_map, refl, sym, ap, ◌∙◌, subst}
use Rattle.std.specs.Prelude.{◌≢◌, ◌==◌, ◌&&◌, if◌then◌else◌}
use Rattle.std.proofs.lemmas.Bool.{eqb-true, eqb-false, eq-eqb}
use Rattle.std.proofs.lemmas.Option.{slice_get-map}
use Rattle.sl_commands.specs.declared.Target.{Target}
use Rattle.sl_commands.specs.declared.Target.TheVariants.{One, All, Selected}
use Rattle.sl_commands.specs.declared.Command.TheVariants.{Release}
use Rattle.sl_commands.specs.declared.Entry.{Entry}
use Rattle.looper_rules.specs.Looper.{Asker, Track, Looper, at_index}
use Rattle.looper_rules.specs.Saves.{loop_asker, session_asker, freed, freed_if, loop_released, session_released}
use Rattle.looper_rules.specs.Entries.{is_taken, releases, performed, applied}
use Rattle.looper_rules.specs.Pins.{names_pin}

-- a track after a release with this target, by its index
abbrev after_release : Target → ℕ → Track → Track
after_release target index t = if names_pin target index t.asker then freed t else t

-- the track of the index, and any other
get-at_index : (k : ℕ) (act : ℕ → Track → Track) (free : ℕ) (ts : List Track) →
    ((reach other : ℕ) (t : Track) → act reach t ≡ act other t) →
    slice_get (at_index k act free ts) k ≡ option_map (act 0) (slice_get ts k)
get-at_index k act free [] same = refl
get-at_index zero act free (t ∷ ts) same = ap Some (same _ 0 t)
get-at_index (suc k) act free (t ∷ ts) same = get-at_index k act free ts same

get-at_other : (k index : ℕ) (act : ℕ → Track → Track) (free : ℕ) (ts : List Track) → index ≢ k →
    slice_get (at_index k act free ts) index ≡ slice_get ts index
get-at_other k index act free [] other = refl
get-at_other zero zero act free (t ∷ ts) other = absurd (other refl)
get-at_other zero (suc index) act free (t ∷ ts) other = refl
get-at_other (suc k) zero act free (t ∷ ts) other = refl
get-at_other (suc k) (suc index) act free (t ∷ ts) other =
    get-at_other k index act free ts (λ same. other (ap suc same))

-- what a release does to a track that it names, and to another
named : (k : ℕ) (t : Track) → loop_released t ≡ after_release (One k) k t
named k t = by_asker t.asker
  where
    by_kind : (asker : Asker) (kind : Bool) →
        freed_if (if kind then None else Some asker) t ≡ (if k == k && not kind then freed t else t)
    by_kind asker true = let none : (k == k && false) ≡ false = rw (eq-eqb k k refl) refl in
        rw none refl
    by_kind asker false = let some : (k == k && true) ≡ true = rw (eq-eqb k k refl) refl in
        rw some refl

    by_asker : (a : Option Asker) →
        freed_if (loop_asker a) t ≡ (if names_pin (One k) k a then freed t else t)
    by_asker None = refl
    by_asker (Some asker) = by_kind asker asker.of_session

unnamed : (k index : ℕ) (t : Track) → (index == k) ≡ false → t ≡ after_release (One k) index t
unnamed k index t other = by_asker t.asker
  where
    by_asker : (a : Option Asker) → t ≡ (if names_pin (One k) index a then freed t else t)
    by_asker None = refl
    by_asker (Some asker) = let none : (index == k && not asker.of_session) ≡ false =
        rw other refl in rw none refl

of_all : (index : ℕ) (t : Track) → session_released t ≡ after_release All index t
of_all index t = by_asker t.asker
  where
    by_kind : (asker : Asker) (kind : Bool) →
        freed_if (if kind then Some asker else None) t ≡ (if kind then freed t else t)
    by_kind asker true = refl
    by_kind asker false = refl

    by_asker : (a : Option Asker) →
        freed_if (session_asker a) t ≡ (if names_pin All index a then freed t else t)
    by_asker None = refl
    by_asker (Some asker) = by_kind asker asker.of_session

of_none : (index : ℕ) (t : Track) → t ≡ after_release Selected index t
of_none index t = by_asker t.asker
  where
    by_asker : (a : Option Asker) → t ≡ (if names_pin Selected index a then freed t else t)
    by_asker None = refl
    by_asker (Some asker) = refl

option_map-same : (f g : Track → Track) (o : Option Track) → ((t : Track) → f t ≡ g t) →
    option_map f o ≡ option_map g o
option_map-same f g None same = refl
option_map-same f g (Some t) same = ap Some (same t)

option_map-nothing : (f : Track → Track) (o : Option Track) → ((t : Track) → t ≡ f t) →
    o ≡ option_map f o
option_map-nothing f None same = refl
option_map-nothing f (Some t) same = ap Some (same t)

-- each target
releases-at : (target : Target) (index : ℕ) (l : Looper) →
    slice_get (releases target l).tracks index ≡ option_map (after_release target index)
    (slice_get l.tracks index)
releases-at (One k) index l = by_index (index == k) refl
  where
    by_index : (b : Bool) → (index == k) ≡ b →
        slice_get (releases (One k) l).tracks index ≡ option_map (after_release (One k) index)
        (slice_get l.tracks index)
    by_index true same =
        subst (λ i. slice_get (releases (One k) l).tracks i ≡ option_map (after_release (One k) i)
        (slice_get l.tracks i)) (sym (eqb-true index k same))
        (get-at_index k (λ reach t. loop_released t) 0 l.tracks (λ reach other t. refl)
        ∙ option_map-same loop_released (after_release (One k) k) (slice_get l.tracks k)
        (named k))
    by_index false other =
        get-at_other k index (λ reach t. loop_released t) 0 l.tracks (eqb-false index k other)
        ∙ option_map-nothing (after_release (One k) index) (slice_get l.tracks index)
        (λ t. unnamed k index t other)
releases-at All index l =
    slice_get-map session_released l.tracks index ∙ option_map-same session_released
    (after_release All index) (slice_get l.tracks index) (of_all index)
releases-at Selected index l =
    option_map-nothing (after_release Selected index) (slice_get l.tracks index) (of_none index)

-- the whole entry
pub release-at : (frame : ℕ) (e : Entry) (l : Looper) (target : Target) (outcome index : ℕ) →
    e.command ≡ Release target outcome →
    is_taken e l ≡ true →
    slice_get (applied frame e l).tracks index ≡ option_map (λ (t : Track).
    if names_pin target index t.asker then freed t else t) (slice_get l.tracks index)
release-at frame e l target outcome index is taken =
    let now : applied frame e l ≡ releases target l =
    ap (λ b. if b then performed e.command frame e l else l) taken
    ∙ ap (λ c. performed c frame e l) is in
    ap (λ (after : Looper). slice_get after.tracks index) now ∙ releases-at target index l
