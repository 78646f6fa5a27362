-- Defines statistics about a device's reads.
use Rattle.std.specs.Prelude.{◌+◌, ◌-◌, ◌^◌, ℕ, min, max}

-- The number of reads of a device, and the length in bytes of the longest buffer that was passed to
-- a read.
pub record ReadStatistics : Type 0 where
  pub count : ℕ
  pub longest_buffer : ℕ

-- The statistics before any read.
abbrev pub no_reads : ReadStatistics
no_reads = record { count = 0; longest_buffer = 0 }

-- Returns the statistics `reads`, updated for one more read into a buffer of `len` bytes. The count
-- stops at 2^64 - 1.
abbrev pub statistics_after_read : ℕ → ReadStatistics → ReadStatistics
statistics_after_read len reads =
    record { count = min (reads.count + 1) (2 ^ 64 - 1); longest_buffer = max reads.longest_buffer len }
