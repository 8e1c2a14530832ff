-- Where a fingerprint may sit, in m buckets, and what a place gives back. Assumes nothing.
use Rattle.std.specs.Prelude.{ℕ, ◌+◌, ◌*◌, ◌/◌, ◌%◌, Bool, cond}
use Rattle.seats.specs.declared.place.Place.{Place}

-- the bucket f / m with carry f % m at flag true, and the bucket f % m with carry f / m at flag false
abbrev pub place_of : ℕ → ℕ → Bool → Place
place_of m f flag = record { bucket = cond flag (f / m) (f % m); carry = cond flag (f % m) (f / m); flag = flag }

-- bucket * m + carry at flag true, and carry * m + bucket at flag false
abbrev pub given_back : ℕ → Place → ℕ
given_back m p = cond p.flag (p.bucket * m + p.carry) (p.carry * m + p.bucket)
