mod Grants
