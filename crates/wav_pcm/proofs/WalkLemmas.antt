-- The walk over chunks, as the code goes.
use Rattle.std.proofs.Common.{◌≡◌, ◌≤◌, ℕ, zero, suc, ◌+◌, List, Option, Some, None, Bool, true, false, refl, sym, ap, ◌∙◌, arith, codes, if◌then◌else◌}
use Rattle.std.specs.Str.{bytes_eq}
use Rattle.wav_pcm.specs.Reading.{Walk, Step, stops, starts, passes, step_of, walked, walk_by, behind, nothing_found}
use Rattle.wav_pcm.specs.Walking.{earlier, first_of}

-- a chunk more before the walk that is left
pub earlier-behind :
    (format : Option (List ℕ)) (name body : List ℕ) (walk : Walk)
    → earlier (first_of format name body) walk ≡ earlier format (behind name body walk)
earlier-behind (Some format) name body walk = go (bytes_eq name (codes "fmt "))
  where
    go : (is : Bool) → earlier (Some format) walk ≡ earlier (Some format)
        (if is then record { format = Some body; data_part = walk.data_part } else walk)
    go true = refl
    go false = refl
earlier-behind None name body walk = go (bytes_eq name (codes "fmt "))
  where
    go : (is : Bool)
        → earlier (if is then Some body else None) walk ≡ earlier None
        (if is then record { format = Some body; data_part = walk.data_part } else walk)
    go true = refl
    go false = refl

-- a format that was met before nothing, and before `data`
earlier-nothing : (format : Option (List ℕ)) →
    earlier format nothing_found ≡ record { format = format; data_part = None }
earlier-nothing None = refl
earlier-nothing (Some format) = refl

earlier-data :
    (format : Option (List ℕ)) (part : List ℕ)
    → earlier format (record { format = None; data_part = Some part })
    ≡ record { format = format; data_part = Some part }
earlier-data None part = refl
earlier-data (Some format) part = refl

-- the walk that is left stops here
pub left-stops :
    (format : Option (List ℕ)) (n : ℕ) (at : List ℕ) (whole : Walk) → 1 ≤ n → stops ≡ step_of at
    → earlier format (walked n at) ≡ whole → record { format = format; data_part = None } ≡ whole
left-stops format zero at whole some is so_far = absurd (omega (arith, some))
left-stops format (suc n) at whole some is so_far =
    sym (earlier-nothing format) ∙ ap (λ (s : Step). earlier format (walk_by s (walked n))) is
    ∙ so_far

-- or is at `data`
pub left-starts :
    (format : Option (List ℕ)) (n : ℕ) (at part : List ℕ) (whole : Walk) → 1 ≤ n →
    starts part ≡ step_of at
    → earlier format (walked n at) ≡ whole →
    record { format = format; data_part = Some part } ≡ whole
left-starts format zero at part whole some is so_far = absurd (omega (arith, some))
left-starts format (suc n) at part whole some is so_far =
    sym (earlier-data format part) ∙ ap (λ (s : Step). earlier format (walk_by s (walked n))) is
    ∙ so_far

-- or passes a chunk
pub left-passes :
    (format next : Option (List ℕ)) (n m : ℕ) (at name body rest : List ℕ) (whole : Walk) →
    n ≡ m + 1
    → passes name body rest ≡ step_of at → next ≡ first_of format name body
    → earlier format (walked n at) ≡ whole → earlier next (walked m rest) ≡ whole
left-passes format next zero m at name body rest whole count is next_is so_far =
    absurd (omega (arith, count))
left-passes format next (suc n) m at name body rest whole count is next_is so_far =
    let same : m ≡ n = omega (arith, count) in
    ap (λ (f : Option (List ℕ)). earlier f (walked m rest)) next_is
    ∙ earlier-behind format name body (walked m rest)
    ∙ ap (λ (k : ℕ). earlier format (behind name body (walked k rest))) same
    ∙ ap (λ (s : Step). earlier format (walk_by s (walked n))) is
    ∙ so_far
