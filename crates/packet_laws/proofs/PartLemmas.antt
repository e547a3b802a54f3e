-- Parts and packets have no fault before the first.
use Rattle.std.proofs.Common.{◌≡◌, ⊎_elim, ◌⊎◌, inl, inr, ℕ, zero, suc, ◌+◌, ◌-◌, ◌≤◌, Bool, true, false, List, length, take, drop, Result, Err, refl, sym, ap, ◌∙◌, arith, length-take, length-drop, take-append-drop, if◌then◌else◌, le_refl}
use Rattle.std.proofs.lemmas.List.{drop_at, take-take}
use Rattle.osc_reader.specs.declared.PacketKind.TheVariants as kinds
use Rattle.osc_reader.specs.declared.PacketFault.{PacketFault}
use Rattle.osc_reader.specs.declared.Message.{Message}
use Rattle.osc_reader.specs.Grammar.{max_depth}
use Rattle.osc_reader.specs.Places.{fault_at}
use Rattle.osc_reader.specs.Reading.{single_at, bundle_at, is_bundle, part_at, is_packet_size, packet_at}
use Rattle.osc_reader.proofs.BundleLemmas.{Reader, part-single, part-deep, part-bundle}
use Rattle.packet_laws.proofs.GoodLemmas.{cut, Good}
use Rattle.packet_laws.proofs.FieldLemmas.{same_err}
use Rattle.packet_laws.proofs.MessageLemmas.{BeginsOn, message_begins, single_fault, single_good, same_slash, same_head, head_long}
use Rattle.packet_laws.proofs.ElementLemmas.{bundle_good}

-- a part that is a bundle is read in one way, and any other as a message
module _ (end : ℕ) (part bundle : Reader)
    (is_bundle_part : (bytes : List ℕ) → is_bundle bytes ≡ true → part end bytes ≡ bundle end bytes)
    (is_single : (bytes : List ℕ) → is_bundle bytes ≡ false → part end bytes ≡ single_at end bytes)
    (low : (bytes : List ℕ) (f : PacketFault) → bundle end bytes ≡ Err f →
    end - length bytes ≤ f.at)
    (high : (bytes : List ℕ) (f : PacketFault) → bundle end bytes ≡ Err f → f.at ≤ end)
    (first : (bytes others : List ℕ) (p : ℕ) (f other : PacketFault) → is_bundle bytes ≡ true →
    length bytes ≤ end → length others ≡ length bytes → take p others ≡ take p bytes →
    f.at + length bytes ≤ end + p → bundle end bytes ≡ Err f → part end others ≡ Err other →
    end - length others ≤ other.at → f.at ≤ other.at) where
  which : (b : Bool) → (b ≡ true) ⊎ (b ≡ false)
  which true = inl refl
  which false = inr refl

  part_low : (bytes : List ℕ) (f : PacketFault) → part end bytes ≡ Err f →
      end - length bytes ≤ f.at
  part_low bytes f is =
      ⊎_elim (λ (h : is_bundle bytes ≡ true). low bytes f (sym (is_bundle_part bytes h) ∙ is))
      (λ (h : is_bundle bytes ≡ false).
      (single_good end).low bytes f (sym (is_single bytes h) ∙ is))
      (which (is_bundle bytes))

  part_high : (bytes : List ℕ) (f : PacketFault) → part end bytes ≡ Err f → f.at ≤ end
  part_high bytes f is =
      ⊎_elim (λ (h : is_bundle bytes ≡ true). high bytes f (sym (is_bundle_part bytes h) ∙ is))
      (λ (h : is_bundle bytes ≡ false).
      (single_good end).high bytes f (sym (is_single bytes h) ∙ is))
      (which (is_bundle bytes))

  -- a message behind whose address the fault stands begins with '/', as the other bytes then do
  single_first : (bytes others : List ℕ) (p : ℕ) (f other : PacketFault) → length bytes ≤ end →
      length others ≡ length bytes → take p others ≡ take p bytes →
      f.at + length bytes ≤ end + p → single_at end bytes ≡ Err f → part end others ≡ Err other →
      f.at ≤ other.at
  single_first bytes others p f other within long same far is is_other =
      let there = part_low others other is_other in
      ⊎_elim (λ (h : f.at ≡ end - length bytes). omega arith)
      (λ (h : BeginsOn end bytes f).
      let behind = h.behind in
      let no_bundle = same_slash h.rest others p (omega arith) (same ∙ ap (take p) h.slash) in
      (single_good end).first bytes others p f other within long same far is
      (sym (is_single others no_bundle) ∙ is_other))
      (message_begins end bytes f within (single_fault end bytes f is))

  pub either_good : Good end (part end)
  either_good =
      record {
        low = part_low;
        high = part_high;
        first = λ bytes others p f other within long same far is is_other.
            ⊎_elim
            (λ (h : is_bundle bytes ≡ true).
            first bytes others p f other h within long same far (sym (is_bundle_part bytes h) ∙ is)
            is_other (part_low others other is_other))
            (λ (h : is_bundle bytes ≡ false).
            single_first bytes others p f other within long same far (sym (is_single bytes h) ∙ is)
            is_other)
            (which (is_bundle bytes));
      }

-- no bundle may stand there
deep_good : (end : ℕ) → Good end (part_at 0 end)
deep_good end =
    either_good end (part_at 0) (λ n bytes. Err (fault_at kinds.Depth n bytes))
    (λ bytes h. part-deep 0 end bytes h refl) (λ bytes h. part-single 0 end bytes h)
    (λ bytes f is. let here = place bytes f is in omega arith)
    (λ bytes f is. let here = place bytes f is in omega arith)
    (λ bytes others p f other h within long same far is is_other low.
    let here = place bytes f is in omega arith)
  where
    place : (bytes : List ℕ) (f : PacketFault) →
        (let r : Result (List Message) PacketFault = Err (fault_at kinds.Depth end bytes) in r)
        ≡ Err f → f.at ≡ end - length bytes
    place bytes f is =
        ap (λ (g : PacketFault). g.at) (sym (same_err (fault_at kinds.Depth end bytes) f is))

-- a bundle behind its head
headed_low : (depth end : ℕ) (bytes : List ℕ) (f : PacketFault) →
    Good end (bundle_at (part_at depth) end) →
    bundle_at (part_at depth) end (drop 8 bytes) ≡ Err f → end - length bytes ≤ f.at
headed_low depth end bytes f good is =
    let low = good.low (drop 8 bytes) f is in
    let size = length-drop 8 bytes in
    omega arith

headed_first : (depth end : ℕ) (bytes others : List ℕ) (p : ℕ) (f other : PacketFault) →
    Good end (bundle_at (part_at depth) end) → is_bundle bytes ≡ true → length bytes ≤ end →
    length others ≡ length bytes → take p others ≡ take p bytes → f.at + length bytes ≤ end + p →
    bundle_at (part_at depth) end (drop 8 bytes) ≡ Err f →
    part_at (suc depth) end others ≡ Err other → f.at ≤ other.at
headed_first depth end bytes others p f other good headed within long same far is is_other =
    let eight = head_long bytes headed in
    let size = length-drop 8 bytes in
    let low = good.low (drop 8 bytes) f is in
    let head = take 8 bytes in
    let head_size : length head ≡ 8 = omega (arith, length-take 8 bytes) in
    let parts = sym (take-append-drop 8 bytes) in
    let c = cut head (drop 8 bytes) others p (omega arith) (long ∙ ap length parts)
    (same ∙ ap (take p) parts) in
    let behind : drop 8 others ≡ c.behind =
    ap (drop 8) c.whole ∙ drop_at head c.behind 8 head_size in
    let there : is_bundle others ≡ true = same_head bytes others p (omega arith) same ∙ headed in
    let less : suc depth - 1 ≡ depth = omega arith in
    let later : bundle_at (part_at depth) end c.behind ≡ Err other =
    ap (bundle_at (part_at depth) end) (sym behind)
    ∙ ap (λ d. bundle_at (part_at d) end (drop 8 others)) (sym less)
    ∙ sym (part-bundle (suc depth) end others there (omega arith)) ∙ is_other in
    good.first (drop 8 bytes) c.behind (p - length head) f other (omega arith) c.long c.same
    (omega arith) is later

part_good : (depth end : ℕ) → Good end (part_at depth end)
part_good zero end = deep_good end
part_good (suc depth) end =
    let good = bundle_good (part_at depth) (part_good depth) end in
    let less : suc depth - 1 ≡ depth = omega arith in
    either_good end (part_at (suc depth)) (λ n bytes. bundle_at (part_at depth) n (drop 8 bytes))
    (λ bytes h. part-bundle (suc depth) end bytes h (omega arith)
    ∙ ap (λ d. bundle_at (part_at d) end (drop 8 bytes)) less)
    (λ bytes h. part-single (suc depth) end bytes h)
    (λ bytes f is. headed_low depth end bytes f good is)
    (λ bytes f is. good.high (drop 8 bytes) f is)
    (λ bytes others p f other h within long same far is is_other low.
    headed_first depth end bytes others p f other good h within long same far is is_other)

-- a whole packet
pub packet_first : (bytes others : List ℕ) (f other : PacketFault) → packet_at bytes ≡ Err f →
    packet_at others ≡ Err other → length others ≡ length bytes →
    take f.at others ≡ take f.at bytes → f.at ≤ other.at
unfolding packet_at
packet_first bytes others f other is is_other long same =
    by_size (is_packet_size (length bytes)) is
    (ap (λ n. if is_packet_size (length bytes) then part_at max_depth n others else
    Err (record { kind = kinds.Size; at = 0 })) (sym long)
    ∙ ap (λ n. if is_packet_size n then part_at max_depth (length others) others else
    Err (record { kind = kinds.Size; at = 0 })) (sym long) ∙ is_other)
  where
    by_size : (b : Bool) →
        (if b then part_at max_depth (length bytes) bytes else
        Err (record { kind = kinds.Size; at = 0 })) ≡ Err f →
        (if b then part_at max_depth (length bytes) others else
        Err (record { kind = kinds.Size; at = 0 })) ≡ Err other →
        f.at ≤ other.at
    by_size true here there =
        (part_good max_depth (length bytes)).first bytes others f.at f other
        (le_refl (length bytes)) long same (omega arith) here there
    by_size false here there =
        let place = ap (λ (g : PacketFault). g.at)
        (same_err (record { kind = kinds.Size; at = 0 }) f here) in
        omega arith

pub packet_same : (bytes others : List ℕ) (f other : PacketFault) (n : ℕ) →
    packet_at bytes ≡ Err f → packet_at others ≡ Err other → length others ≡ length bytes →
    take n others ≡ take n bytes → f.at ≤ n → other.at ≤ n → f.at ≡ other.at
packet_same bytes others f other n is is_other long same near there =
    let less = packet_first bytes others f other is is_other long
    (sym (take-take f.at n others near) ∙ ap (take f.at) same ∙ take-take f.at n bytes near) in
    let more = packet_first others bytes other f is_other is (sym long)
    (sym (take-take other.at n bytes there) ∙ ap (take other.at) (sym same)
    ∙ take-take other.at n others there) in
    omega arith
