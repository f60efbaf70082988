use Rattle.std.proofs.Common.{◌≡◌, ◌+◌, ◌-◌, ◌^◌, ◌<◌, ◌++◌, ◌∷◌, [], ℕ, List, length, min, take, sym, ap, ◌∙◌, arith, length-append, get_or}
use Rattle.std.proofs.lemmas.Grind.{flat_map-append}
use Rattle.std.proofs.lemmas.List.{take_more}
use Rattle.edges.specs.Spelling.{be32, blob}
use Rattle.record_codec.specs.Spelling.{blobs}
use Rattle.record_codec.proofs.Lengths.{length-be32}
use Rattle.record_codec.proofs.size.size_of_buffers.Goals as goal

length-more : (buffers : List (List ℕ)) (i : ℕ) (buffer : List ℕ) → i < length buffers → buffer ≡ get_or buffers i buffer → length (blobs (take (i + 1) buffers)) ≡ length (blobs (take i buffers)) + (4 + length buffer)
length-more buffers i buffer lt is =
    let one : take (i + 1) buffers ≡ take i buffers ++ buffer ∷ [] = take_more buffers i buffer lt ∙ ap (λ (b : List ℕ). take i buffers ++ b ∷ []) (sym is) in
    let parts : blobs (take (i + 1) buffers) ≡ blobs (take i buffers) ++ blobs (buffer ∷ []) = ap blobs one ∙ flat_map-append blob (take i buffers) (buffer ∷ []) in
    omega (arith, ap length parts, length-append (blobs (take i buffers)) (blobs (buffer ∷ [])), length-append (blob buffer) [], length-append (be32 (length buffer)) buffer, length-be32 (length buffer))

-- the size goes on by the length of four octets and so many octets
saturated : (a b total top : ℕ) → total ≡ a + (4 + b) → min (min (min a top + 4) top + b) top ≡ min total top
saturated a b total top is = grind (arith, is)

pub loop-buffer-preserved : goal.loop-buffer-preserved
loop-buffer-preserved c =
    let top = 2 ^ 64 - 1 in
    let before = length (blobs (take c.loop-buffer.buffer-index c.args.buffers.now)) in
    let octets = length c.buffer-item.result in
    let more = length-more c.args.buffers.now c.loop-buffer.buffer-index c.buffer-item.result c.loop-buffer-test.true c.buffer-item.is in
    c.more-size.ensures ∙ ap (λ n. min (c.saturating_add.result + n) top) (ap length c.as_slice.ensures)
    ∙ ap (λ n. min (n + octets) top) (c.saturating_add.ensures ∙ ap (λ n. min (n + 4) top) c.loop-buffer.invariant)
    ∙ saturated before octets (length (blobs (take (c.loop-buffer.buffer-index + 1) c.args.buffers.now))) top more
