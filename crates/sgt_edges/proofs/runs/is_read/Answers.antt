use Rattle.std.proofs.Common.{◌≡◌, ◌-◌, length, sym, rules, arith}
use Rattle.sgt_names.proofs.Places.{Contains-from_at}
use Rattle.sgt_edges.proofs.Slices.{greatest}
use Rattle.sgt_edges.proofs.runs.is_read.Goals as goal

pub returns-in-Some : goal.returns-in-Some
returns-in-Some c =
    let last = c.in-Some.r.now in
    let rs = c.args.readers.now in
    let has = Contains-from_at rs (length rs - 1) last (sym c.in-Some.ensures.value) in (
      λ is. (last, has, search rules),
      λ read.
          let up = greatest rs last c.requires.by_version (sym c.in-Some.ensures.value) read.0 read.1 in
          let most = c.requires.reached last has in
          let there = read.2 in
          let same : last.version ≡ c.args.present = omega (arith, up, most, there) in
          search rules,
    )
