use Rattle.std.proofs.Common.{rules, arith, sym, ap, subst, ◌∙◌, ◌≡◌, ◌≤◌, ◌<◌, ◌*◌, ◌/◌, ◌++◌, ℕ, List, length, take, drop}
use Rattle.std.proofs.lemmas.Nat.{div-add-mod'}
use Rattle.wav_pcm.specs.Samples.{frames_in}
use Rattle.audio_ends.specs.Fills.{CameBehind}
use Rattle.live_audio.proofs.PlayLemmas.{least_most, bytes_fit, whole_few, length_taken, length_front, plays_period}
use Rattle.live_audio.proofs.play.play_at_most.Goals as goal

pub returns-clause-plays : goal.returns-clause-plays
returns-clause-plays g c =
    let size = c.frame_size-size.result in
    let count = c.fill_bytes-came.result.count in
    let ready = c.requires.ready in
    let size_is = c.frame_size-size.ensures in
    let some : 0 < size = (let a = ready.few in let b = size_is in omega arith) in
    let most : c.args.due ≤ c.args.ends.now.most = least_most _ _ _ c.requires.due in
    let within_bytes : length c.args.ends.now.bytes ≡ 32768 = search rules in
    let within_frames : length c.args.ends.now.frames ≡ 8192 = search rules in
    let within_heard : length c.args.ends.now.heard ≡ 8192 = search rules in
    let room = bytes_fit _ c.args.due size _ ready.format size_is most ready.within in
    let long : length c.fill_bytes-came.new.bytes ≡ c.args.due * size =
    c.fill_bytes-came.auto.bytes
    ∙ length_taken (c.args.due * size) c.args.ends.now.bytes (omega arith) in
    let within : count ≤ length c.fill_bytes-came.new.bytes =
    (let a = c.fill_bytes-came.ensures.within in let b = c.fill_bytes-came.auto.bytes in
    omega arith) in
    let few : count / size ≤ c.args.due = whole_few count size c.args.due (omega arith) in
    let less = ready.within in
    let all = div-add-mod' count size in
    let frames_long : length c.read_frames.new.frames ≡ count / size =
    c.read_frames.auto.frames
    ∙ length_taken (count / size) c.args.ends.now.frames (omega arith) in
    let heard_long : length c.frames.new.output ≡ count / size =
    c.frames.auto.output
    ∙ length_taken (count / size) c.args.ends.now.heard (omega arith) in
    let written_long : length c.write_samples.new.out ≡ count / size * size =
    c.write_samples.auto.out
    ∙ length_front (count / size * size) c.fill_bytes-came.new.bytes _ (omega arith) in
    plays_period _ size c.args.due _ count _ _ _ _ _ _ _ _ _ _ c.fill_bytes-came.new.bytes _
    c.read_frames.new.frames _ c.frames.new.output _ c.write_samples.new.out _
    size_is some c.requires.due
    (subst (λ (kept : List ℕ). CameBehind (g.A.Source.seen c.args.source.now).left
    (g.A.Source.seen c.fill_bytes-came.new.source).left kept
    (take count c.fill_bytes-came.new.bytes)) c.as_slice.ensures.value
    c.fill_bytes-came.ensures.came)
    within long frames_long
    (c.read_frames.ensures
    ∙ ap (λ k. frames_in c.args.ends.now.channels 16 k
    (take (count / size * size)
    (c.fill_bytes-came.new.bytes ++ drop (c.args.due * size) c.args.ends.now.bytes)))
    (sym c.read_frames.auto.frames ∙ frames_long))
    c.kept_of-ends.ensures c.frames.ensures.engine c.frames.ensures.output heard_long
    c.write_samples.ensures written_long c.fill_bytes-came.ensures.halts
    (λ is. c.fill_bytes-came.ensures.whole is ∙ sym c.fill_bytes-came.auto.bytes)
    c.write_all-answer.ensures.value c.write_all-answer.ensures.counts
