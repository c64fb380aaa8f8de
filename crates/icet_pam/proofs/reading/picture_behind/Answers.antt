use Rattle.std.proofs.Common.{◌<◌, ◌≤◌, length, subst}
use Rattle.icet_pam.specs.Pictures.{samples_size}
use Rattle.icet_pam.proofs.FirstPictures.{begins, not_longer, too_short}
use Rattle.icet_pam.proofs.reading.picture_behind.Goals as goal

pub returns-then-rest-size-clause-refused : goal.returns-then-rest-size-clause-refused
returns-then-rest-size-clause-refused c = λ refused. too_short c.args.bytes.now c.args.rest.now c.args.shape c.requires (subst (λ n. length c.args.rest.now < n) c.size_of-size.ensures c.if-rest-size.true)

pub overflow_sub-length : goal.overflow_sub-length
overflow_sub-length c = not_longer c.args.bytes.now c.args.rest.now c.args.shape c.requires

pub returns-clause-picture : goal.returns-clause-picture
returns-clause-picture c =
    let within : samples_size c.args.shape ≤ length c.args.rest.now = subst (λ n. n ≤ length c.args.rest.now) c.size_of-size.ensures c.if-rest-size.false in
    let are = rw c.size_of-size.ensures at c.in_ok-samples.ensures in
    rw (c.greatest.ensures, c.size_of-size.ensures) (begins c.args.bytes.now c.args.rest.now c.args.shape c.in_ok-samples.samples.items c.requires within are)
