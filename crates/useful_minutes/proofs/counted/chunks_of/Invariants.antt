use Rattle.std.proofs.Common.{◌≡◌, ℕ, ◌<◌, length, slice_index_or}
use Rattle.useful_minutes.specs.declared.counted.Chunk.{Chunk}
use Rattle.useful_minutes.specs.CountedChunks.{IsChunk}
use Rattle.useful_minutes.proofs.counted.chunks_of.Given as goal

abbrev pub invariant-loop-chunk : goal.invariant-loop-chunk
invariant-loop-chunk v =
    record {
      count : length v.chunks.items ≡ v.chunk;
      each : (n : ℕ) (none : Chunk) → n < v.chunk → IsChunk v.counting n (slice_index_or v.chunks.items n none);
    }
