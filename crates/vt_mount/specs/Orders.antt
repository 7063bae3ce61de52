-- The orders of lists: that of numbers, and that of what stands on an inode.
use Rattle.std.proofs.Common.{refl, eq-eqb, arith}
use Rattle.vt_spec.proofs.Common.{nat_tests}
use Rattle.vt_location.specs.Numbers.{same_id}
use Rattle.vt_mount.specs.Rising.{IsOrder, precedes}
use Rattle.vt_mount.specs.Standing.{same_standing, stands_before}

pub numbers_order : IsOrder precedes same_id
numbers_order = record {
  turned = λ a b is. grind (arith, nat_tests, is);
  climbs = λ a b c is that. grind (arith, nat_tests, is, that);
  apart = λ a b is. grind (arith, nat_tests, is);
  apart_behind = λ a b is. grind (arith, nat_tests, is);
  total = λ a b is that. grind (arith, nat_tests, is, that);
  itself = λ a. eq-eqb a.count a.count refl;
}

pub standing_order : IsOrder stands_before same_standing
standing_order = record {
  turned = λ a b is. grind (arith, nat_tests, is);
  climbs = λ a b c is that. grind (arith, nat_tests, is, that);
  apart = λ a b is. grind (arith, nat_tests, is);
  apart_behind = λ a b is. grind (arith, nat_tests, is);
  total = λ a b is that. grind (arith, nat_tests, is, that);
  itself = λ a. grind (arith, nat_tests);
}
