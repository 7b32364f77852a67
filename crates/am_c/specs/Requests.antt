-- The numbers of the requests that ioctl(2) takes, as they are on x86-64 (auto_fs.h;
-- auto_dev-ioctl.h).
use Rattle.std.specs.Prelude.{ℕ, ◌==◌, if◌then◌else◌}

-- AUTOFS_IOC_READY, AUTOFS_IOC_FAIL, AUTOFS_IOC_CATATONIC, AUTOFS_IOC_SETTIMEOUT,
-- AUTOFS_IOC_EXPIRE_MULTI and AUTOFS_DEV_IOCTL_SETPIPEFD in this order, from 1; else 0
abbrev pub request_number : ℕ → ℕ
request_number request =
    if request == 1 then 37728
    else if request == 2 then 37729
    else if request == 3 then 37730
    else if request == 4 then 3221787492
    else if request == 5 then 1074041702
    else if request == 6 then 3222836088
    else 0
