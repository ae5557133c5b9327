-- Words are cut, and digits are read, as their definitions say.
use Rattle.std.proofs.Common.{◌≡◌, ℕ, ◌+◌, ◌-◌, ◌*◌, ◌^◌, ◌<◌, ◌&&◌, if◌then◌else◌, length, get_or, nat_le, nat_lt, List, None, drop}
use Rattle.std.proofs.lemmas.List.{take_rest, drop_more, drop_all}
use Rattle.std.proofs.lemmas.List.Sums.{position_or_len_is}
use Rattle.std.proofs.lemmas.Str.Ascii.{trim_ascii_start_is}
use Rattle.call_line.specs.Words.{digits_from}

-- what a cut at a blank needs
pub ruleset cutting = (position_or_len_is, take_rest, trim_ascii_start_is)

-- one digit more
pub digit_goes : (s : List ℕ) (i n : ℕ) → i < length s → digits_from n (drop i s) ≡ (if (nat_le 48 (get_or s i 0) && nat_le (get_or s i 0) 57) && nat_lt (n * 10 + (get_or s i 0 - 48)) (2 ^ 64) then digits_from (n * 10 + (get_or s i 0 - 48)) (drop (i + 1) s) else None)
digit_goes s i n l = rw (drop_more s i 0 l)

-- what reading digits needs
pub ruleset digits = (digit_goes, drop_all)
