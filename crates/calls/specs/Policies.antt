-- What the two policies accept.
--   auth_of        an auth message, by its reason
--   plain_accepts   the default policy: a grant alone
--   in_range       the custom tags that are accepted
--   ranges_accept   the policy by ranges of tags: those custom messages besides
--   noted          the tag noted after a custom message
use Rattle.std.specs.Prelude.{ℕ, Bool, true, false, cond, ◌&&◌, List, Some, None, Option, nat_le}
use Rattle.message.specs.Message.{Said, step1, step2, update, awareness, denied, granted, query, custom}

-- an auth message: granted, or denied for a reason
abbrev pub auth_of : Option (List ℕ) → Said
auth_of None = granted
auth_of (Some reason) = denied reason

-- a grant is accepted, and nothing else that a policy is asked of
abbrev pub plain_accepts : Said → Bool
plain_accepts granted = true
plain_accepts (denied reason) = false
plain_accepts (custom tag part) = false
plain_accepts (step1 part) = true
plain_accepts (step2 part) = true
plain_accepts (update part) = true
plain_accepts (awareness part) = true
plain_accepts query = true

-- the custom tags from 16 to 31
abbrev pub in_range : ℕ → Bool
in_range tag = nat_le 16 tag && nat_le tag 31

-- custom messages with those tags are accepted besides
abbrev pub ranges_accept : Said → Bool
ranges_accept (custom tag part) = in_range tag
ranges_accept granted = true
ranges_accept (denied reason) = false
ranges_accept (step1 part) = true
ranges_accept (step2 part) = true
ranges_accept (update part) = true
ranges_accept (awareness part) = true
ranges_accept query = true

-- the tag that is noted after a custom message: its own where that is accepted
abbrev pub noted : ℕ → Option ℕ → Option ℕ
noted tag latest = cond (in_range tag) (Some tag) latest
