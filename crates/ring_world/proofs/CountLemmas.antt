-- One more of those that are counted down.
use Rattle.std.proofs.Common.{◌≡◌, ℕ, zero, suc, ◌+◌, ◌-◌, ◌≤◌, ◌<◌, List, [], ◌∷◌, ◌++◌, sym, ap, ◌∙◌, arith, append_assoc, append-nil}
use Rattle.sl_base.specs.Sounds.{Sound}
use Rattle.ring_world.specs.declared.step.Step.{Step}
use Rattle.ring_world.specs.Inputs.{input_at, input_from}
use Rattle.ring_world.specs.Generating.{next_state, step_at, steps_from}

-- one step more
steps_left : (state left : ℕ) → 0 < left →
    steps_from state left ≡ step_at (next_state state) ∷ steps_from (next_state state) (left - 1)
steps_left state zero some = absurd (omega arith)
steps_left state (suc left) some =
    ap (λ n. step_at (next_state state) ∷ steps_from (next_state state) n) (omega arith)

pub step_more : (steps : List Step) (state count done : ℕ) (all : List Step) → done < count →
    steps ++ steps_from state (count - done) ≡ all →
    (steps ++ step_at (next_state state) ∷ [])
    ++ steps_from (next_state state) (count - (done + 1)) ≡ all
step_more steps state count done all less is =
    append_assoc steps (step_at (next_state state) ∷ [])
    (steps_from (next_state state) (count - (done + 1)))
    ∙ ap (λ n. steps ++ step_at (next_state state) ∷ steps_from (next_state state) n)
    (omega arith)
    ∙ ap (λ more. steps ++ more) (sym (steps_left state (count - done) (omega arith))) ∙ is

pub no_step_more : (steps : List Step) (state count done : ℕ) (all : List Step) → count ≤ done →
    steps ++ steps_from state (count - done) ≡ all → steps ≡ all
no_step_more steps state count done all none is =
    sym (append-nil steps)
    ∙ ap (λ n. steps ++ steps_from state n)
    (let zero_left : 0 ≡ count - done = omega arith in zero_left)
    ∙ is

-- one frame more
frames_left : (number frame left : ℕ) → 0 < left →
    input_from number frame left ≡ input_at number frame ∷ input_from number (frame + 1) (left - 1)
frames_left number frame zero some = absurd (omega arith)
frames_left number frame (suc left) some =
    ap (λ n. input_at number frame ∷ input_from number (frame + 1) n) (omega arith)

pub frame_more : (input : List Sound) (number frame count done : ℕ) (all : List Sound) →
    done < count → input ++ input_from number (frame + done) (count - done) ≡ all →
    (input ++ input_at number (frame + done) ∷ [])
    ++ input_from number (frame + (done + 1)) (count - (done + 1)) ≡ all
frame_more input number frame count done all less is =
    append_assoc input (input_at number (frame + done) ∷ [])
    (input_from number (frame + (done + 1)) (count - (done + 1)))
    ∙ ap (λ n. input ++ input_at number (frame + done) ∷ input_from number n (count - (done + 1)))
    (let same : frame + (done + 1) ≡ frame + done + 1 = omega arith in same)
    ∙ ap (λ n. input ++ input_at number (frame + done) ∷ input_from number (frame + done + 1) n)
    (let same : count - (done + 1) ≡ count - done - 1 = omega arith in same)
    ∙ ap (λ more. input ++ more)
    (sym (frames_left number (frame + done) (count - done) (omega arith))) ∙ is

pub no_frame_more : (input : List Sound) (number frame count done : ℕ) (all : List Sound) →
    count ≤ done → input ++ input_from number frame (count - done) ≡ all → input ≡ all
no_frame_more input number frame count done all none is =
    sym (append-nil input)
    ∙ ap (λ n. input ++ input_from number frame n)
    (let zero_left : 0 ≡ count - done = omega arith in zero_left)
    ∙ is
